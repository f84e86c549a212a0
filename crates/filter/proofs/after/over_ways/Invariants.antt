use Rattle.filter.proofs.Afterward.{Taken}
use Rattle.filter.proofs.after.over_ways.Given as goal

abbrev pub invariant-loop-rest : goal.invariant-loop-rest
invariant-loop-rest l = Taken l.image l.reach l.e l.rest l.m

abbrev pub decreases-loop-rest : goal.decreases-loop-rest
decreases-loop-rest l = l.rest
