-- The first place found is enough.
use borrow.Author.Rules.{rules}
use mathlib.Core.Path.{sym, ◌∙◌}
use Rattle.relations.specs.Sets.{holds}
use Rattle.relations.proofs.Counting.{found}
use Rattle.relations.proofs.tables.holds_any.Goals as goal

pub returns-then-has : goal.returns-then-has
returns-then-has c = found (holds c.args.set) c.args.n c.loop-k.k (search rules) (sym c.has.ensures ∙ c.if-has.true)
