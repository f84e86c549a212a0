use mathlib.Core.Path.{◌≡◌}
use mathlib.Core.Bool.{Bool, true}
use mathlib.Core.List.{List}
use Prim.Native.Nat.{ℕ}
use Rattle.model.specs.Lists.{below, every}
use Rattle.model.specs.RuleTables.{table, is_table}
use Rattle.tables.proofs.each_table.Given as goal

abbrev pub right : List ℕ → ℕ → ℕ → ℕ → Bool
right image letters sets r = is_table (table image r) letters sets

abbrev pub invariant-loop-r : goal.invariant-loop-r
invariant-loop-r l = (every (right l.image l.h.letters l.h.sets) (below l.r) ≡ true)
