use mathlib.Core.Path.{◌≡◌}
use mathlib.Core.Bool.{Bool, true}
use mathlib.Core.List.{List}
use Prim.Native.Nat.{ℕ}
use lib.Dec.{ltb}
use lib.ListN.{length}
use Rattle.model.specs.Lists.{below, every}
use Rattle.model.specs.RuleTables.{table, column_count, columns_of}
use Rattle.image.specs.Index.{column_row}
use Rattle.tables.proofs.RowByRow.{rows_to}
use Rattle.tables.proofs.keep_columns.Given as goal

abbrev pub right : List ℕ → ℕ → Bool
right image r = every (λ c. ltb c (column_count (table image r))) (columns_of image r)

abbrev pub invariant-loop-r : goal.invariant-loop-r
invariant-loop-r l = (length l.out ≡ 8192) × (l.out ≡ rows_to (column_row l.image) 32 l.r) × (every (right l.image) (below l.r) ≡ true)
