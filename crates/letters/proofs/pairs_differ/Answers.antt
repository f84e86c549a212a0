-- `pairs_differ` meets its contract: the pairs that are left decide.
use mathlib.Core.Path.{sym, ◌∙◌}
use native.Mathlib.Omega.{arith}
use Rattle.model.specs.RuleTables.{pairs, boundary_pair, same_pair}
use Rattle.model.proofs.Rest.{distinct_on, distinct_fails, distinct_done}
use Rattle.letters.proofs.Laws.{pairs_there}
use Rattle.letters.proofs.pairs_differ.Goals as goal

pub returns-then-not-pair_alone : goal.returns-then-not-pair_alone
returns-then-not-pair_alone c =
    let image = c.args.image.now in
    sym (c.loop-p.invariant ∙ distinct_fails (pairs image) boundary_pair c.loop-p.p (omega (arith, pairs_there c.requires)) same_pair (sym c.pair_alone.ensures ∙ c.if-not-pair_alone.true))

pub loop-p-preserved : goal.loop-p-preserved
loop-p-preserved c =
    let image = c.args.image.now in
    c.loop-p.invariant ∙ distinct_on (pairs image) boundary_pair c.loop-p.p (omega (arith, pairs_there c.requires)) same_pair (sym c.pair_alone.ensures ∙ c.if-not-pair_alone.false)

pub returns : goal.returns
returns c =
    let image = c.args.image.now in
    sym (c.loop-p.invariant ∙ distinct_done (pairs image) c.loop-p.p (omega (arith, pairs_there c.requires)) same_pair)
