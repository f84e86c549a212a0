use Rattle.relations.specs.Rows.{row}
use Rattle.relations.proofs.Filling.{Closing}
use Rattle.relations.proofs.tables.star.Given as goal

abbrev pub invariant-loop-j : goal.invariant-loop-j
invariant-loop-j l = Closing (row l.one) l.rows l.n l.j
