use Rattle.written_rules.proofs.Framing.{Framed}
use Rattle.written_rules.proofs.boundaries.between.Given as goal

abbrev pub invariant-loop-i : goal.invariant-loop-i
invariant-loop-i l = Framed l.pairs l.pairing l.i
