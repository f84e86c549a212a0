use mathlib.Core.Path.{◌≡◌}
use Rattle.contexts.specs.Relation.{through}
use Rattle.relations.specs.Sets.{holds}
use Rattle.relations.specs.Rows.{row}
use Rattle.relations.proofs.tables.reached.Given as goal

abbrev pub invariant-loop-m : goal.invariant-loop-m
invariant-loop-m l = holds l.out ≡ through l.m (holds l.places) (row l.rows)
