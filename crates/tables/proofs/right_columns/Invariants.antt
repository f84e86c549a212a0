use mathlib.Core.Path.{◌≡◌}
use mathlib.Core.Bool.{Bool, true}
use mathlib.Core.List.{List}
use Prim.Native.Nat.{ℕ}
use lib.Dec.{ltb}
use lib.ListN.{length}
use Rattle.model.specs.Lists.{below, every}
use Rattle.model.specs.RuleTables.{table, column_count, columns_of}
use Rattle.tables.proofs.right_columns.Given as goal

abbrev pub right : List ℕ → ℕ → Bool
right image r = every (λ c. ltb c (column_count (table image r))) (columns_of image r)

abbrev pub invariant-loop-r : goal.invariant-loop-r
invariant-loop-r l = (length l.chosen ≡ 256) × (every (right l.image) (below l.r) ≡ true)
