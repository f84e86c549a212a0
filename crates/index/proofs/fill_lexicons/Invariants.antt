use mathlib.Core.Path.{◌≡◌}
use Prim.Native.Nat.{◌*◌, ◌≤◌}
use lib.ListN.{length}
use Rattle.model.specs.Lexicon.{first_entry}
use Rattle.index.proofs.Lexicons.{firsts_to}
use Rattle.index.proofs.fill_lexicons.Given as goal

abbrev pub invariant-loop-x : goal.invariant-loop-x
invariant-loop-x l = record { long : length l.row ≡ 256; stored : l.row ≡ firsts_to l.image l.x; small : l.first ≤ 65535 * l.x; first_is : l.first ≡ first_entry l.image l.x }
