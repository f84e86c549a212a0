use lib.ListN.{length}
use Rattle.contexts.specs.Meaning.{onward}
use Rattle.contexts.specs.Relation.{one}
use Rattle.relations.proofs.Filling.{Filled}
use Rattle.matching.specs.Steps.{passes}
use Rattle.matching.proofs.pair_rows.Given as goal

abbrev pub invariant-loop-j : goal.invariant-loop-j
invariant-loop-j l = Filled l.rows (length l.s) l.j (λ i. onward (passes l.number) l.s (one i))
