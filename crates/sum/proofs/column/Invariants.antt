use Rattle.sum.specs.Sums.{sum_in, rows_in}
use Rattle.sum.proofs.Totals.{Added, Run}
use Rattle.sum.proofs.column.Given as goal

abbrev pub invariant-loop-p : goal.invariant-loop-p
invariant-loop-p l = Run 7 (sum_in l.block l.c) l.p l.sum l.strips × Added 7 (rows_in l.block l.c) l.p l.rows
