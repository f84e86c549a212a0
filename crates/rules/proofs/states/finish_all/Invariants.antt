use mathlib.Core.Bool.{true}
use mathlib.Core.Path.{◌≡◌}
use Rattle.model.specs.Lists.{below, every}
use Rattle.rules.proofs.Stepping.{ends_all}
use Rattle.rules.proofs.states.finish_all.Given as goal

abbrev pub invariant-loop-rule : goal.invariant-loop-rule
invariant-loop-rule l = every (ends_all l.image l.states l.boundary) (below l.rule) ≡ true
