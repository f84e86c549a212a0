use Rattle.rules.proofs.Stepping.{RulesTook}
use Rattle.rules.proofs.states.step_all.Given as goal

abbrev pub invariant-loop-r : goal.invariant-loop-r
invariant-loop-r l = RulesTook l.image l.initial.after l.p l.r l.after
