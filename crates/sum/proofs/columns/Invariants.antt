use mathlib.Core.List.{List}
use Prim.Native.Nat.{ℕ}
use Rattle.sum.specs.Sums.{column_sum, column_by_row, column_by_strip, Filled}
use Rattle.sum.proofs.columns.Given as goal

abbrev pub AllFilled : List ℕ → ℕ → List ℕ → List ℕ → List ℕ → Type 0
AllFilled block n sums rows strips = Filled (column_sum block) n sums × (Filled (column_by_row block) n rows × Filled (column_by_strip block) n strips)

abbrev pub invariant-loop-c : goal.invariant-loop-c
invariant-loop-c l = AllFilled l.block l.c l.sums l.rows l.strips
