use Prim.Native.Nat.{suc}
use Rattle.contexts.specs.Operators.{some}
use Rattle.relations.specs.Rows.{row}
use Rattle.relations.proofs.Counting.{Counted}
use Rattle.relations.proofs.tables.beginning.Given as goal

abbrev pub invariant-loop-i : goal.invariant-loop-i
invariant-loop-i l = Counted (λ k. some (row l.rows (suc k)) (suc l.n)) l.i l.out
