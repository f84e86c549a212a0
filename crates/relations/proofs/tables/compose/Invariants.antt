use Prim.Native.Nat.{suc}
use Rattle.contexts.specs.Relation.{through}
use Rattle.relations.specs.Rows.{row}
use Rattle.relations.proofs.Filling.{Filled}
use Rattle.relations.proofs.tables.compose.Given as goal

abbrev pub invariant-loop-j : goal.invariant-loop-j
invariant-loop-j l = Filled l.rows l.n l.j (λ i. through (suc l.n) (row l.one i) (row l.two))
