use Rattle.sum.specs.Sums.{strip_byte}
use Rattle.sum.proofs.Totals.{Run}
use Rattle.sum.proofs.strip.Given as goal

abbrev pub invariant-loop-q : goal.invariant-loop-q
invariant-loop-q l = Run 9 (strip_byte l.block l.from) l.q l.sum l.rows
