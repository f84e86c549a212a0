use Rattle.filter.specs.Sieve.{Narrower}
use Rattle.filter.proofs.onward.narrow.Given as goal

abbrev pub invariant-loop-y : goal.invariant-loop-y
invariant-loop-y l = Narrower l.image l.forms l.masks l.initial.reach l.reach
