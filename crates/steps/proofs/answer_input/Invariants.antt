-- After each step all that came in is answered but what waits.
use Rattle.steps.proofs.Sofar.{Head}
use Rattle.steps.proofs.answer_input.Given as goal

abbrev pub invariant-loop-turns : goal.invariant-loop-turns
invariant-loop-turns g l = Head l.run.image.now l.chunk l.line l.s l._turns
