use mathlib.Core.Bool.{◌||◌}
use Rattle.relations.specs.Rows.{row}
use Rattle.relations.proofs.Filling.{Filled}
use Rattle.relations.proofs.tables.either.Given as goal

abbrev pub invariant-loop-j : goal.invariant-loop-j
invariant-loop-j l = Filled l.rows l.n l.j (λ i k. row l.one i k || row l.two i k)
