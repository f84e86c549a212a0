use mathlib.Core.Bool.{true}
use Rattle.relations.proofs.Counting.{Counted}
use Rattle.matching.proofs.context.all_places.Given as goal

abbrev pub invariant-loop-j : goal.invariant-loop-j
invariant-loop-j l = Counted (λ k. true) l.j l.out
