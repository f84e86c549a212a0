use mathlib.Core.Path.{◌≡◌}
use mathlib.Core.Bool.{Bool, true}
use mathlib.Core.List.{List}
use Prim.Native.Nat.{ℕ}
use Rattle.model.specs.Lists.{below, every}
use Rattle.model.specs.Blocks.{record_at}
use Rattle.model.specs.RuleTables.{is_set}
use Rattle.sets.proofs.right_sets.Given as goal

abbrev pub right : List ℕ → ℕ → ℕ → Bool
right image letters i = is_set letters (record_at image 7 i)

abbrev pub invariant-loop-i : goal.invariant-loop-i
invariant-loop-i l = every (right l.image l.h.letters) (below l.i) ≡ true
