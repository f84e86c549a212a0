use mathlib.Core.Path.{◌≡◌}
use lib.ListN.{length}
use Rattle.model.specs.Lists.{byte}
use Rattle.model.specs.RuleTables.{letter_sets}
use Rattle.sets.specs.Seen.{seen_by}
use Rattle.sets.proofs.Written.{Written}
use Rattle.sets.proofs.seen.Given as goal

abbrev pub invariant-loop-p : goal.invariant-loop-p
invariant-loop-p l = (length l.out ≡ 256) × Written (λ q. seen_by (letter_sets l.image) l.side (byte l.letters q)) l.initial.out l.p l.out
