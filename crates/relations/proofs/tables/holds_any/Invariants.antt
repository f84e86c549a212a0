use mathlib.Core.Bool.{false}
use mathlib.Core.Path.{◌≡◌}
use Rattle.contexts.specs.Operators.{some}
use Rattle.relations.specs.Sets.{holds}
use Rattle.relations.proofs.tables.holds_any.Given as goal

abbrev pub invariant-loop-k : goal.invariant-loop-k
invariant-loop-k l = some (holds l.set) l.k ≡ false
