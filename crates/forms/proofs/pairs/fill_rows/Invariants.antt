use Rattle.forms.specs.Filling.{RowsOf}
use Rattle.forms.proofs.pairs.fill_rows.Given as goal

abbrev pub invariant-loop-p : goal.invariant-loop-p
invariant-loop-p l = RowsOf l.image l.rows l.p
