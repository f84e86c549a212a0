use mathlib.Core.Path.{◌≡◌}
use lib.ListN.{drop}
use Rattle.model.specs.Lists.{distinct}
use Rattle.model.specs.RuleTables.{pairs, same_pair}
use Rattle.letters.proofs.pairs_differ.Given as goal

abbrev pub invariant-loop-p : goal.invariant-loop-p
invariant-loop-p l = distinct same_pair (pairs l.image) ≡ distinct same_pair (drop l.p (pairs l.image))
