use Prim.Native.Nat.{ℕ}
use mathlib.Core.Bool.{Bool}
use mathlib.Core.Path.{◌≡◌}
use mathlib.Core.List.{List}
use lib.ListN.{drop}
use Rattle.model.specs.Lists.{every}
use Rattle.model.specs.Blocks.{header}
use Rattle.model.specs.RuleTables.{Pair, pairs, is_pair}
use Rattle.letters.proofs.each_pair.Given as goal

abbrev pub right : List ℕ → Pair → Bool
right image = is_pair (header image).letters

abbrev pub invariant-loop-p : goal.invariant-loop-p
invariant-loop-p l = every (right l.image) (pairs l.image) ≡ every (right l.image) (drop l.p (pairs l.image))
