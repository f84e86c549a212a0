-- `each_pair` meets its contract: the pairs that are left decide.
use mathlib.Core.Path.{sym, ap₂, ◌∙◌}
use native.Mathlib.Omega.{arith}
use Rattle.model.specs.RuleTables.{pairs, boundary_pair, is_pair}
use Rattle.model.proofs.Rest.{every_on, every_fails, every_done}
use Rattle.letters.proofs.Laws.{laid_letters, pairs_there}
use Rattle.letters.proofs.each_pair.Invariants.{right}
use Rattle.letters.proofs.each_pair.Goals as goal

pub returns-then-not-is_pair : goal.returns-then-not-is_pair
returns-then-not-is_pair c =
    let image = c.args.image.now in
    let tested = sym (c.is_pair.ensures ∙ ap₂ is_pair (laid_letters c.requires) c.pair_at.ensures) in
    sym (c.loop-p.invariant ∙ every_fails (pairs image) boundary_pair c.loop-p.p (omega (arith, pairs_there c.requires)) (right image) (tested ∙ c.if-not-is_pair.true))

pub loop-p-preserved : goal.loop-p-preserved
loop-p-preserved c =
    let image = c.args.image.now in
    let tested = sym (c.is_pair.ensures ∙ ap₂ is_pair (laid_letters c.requires) c.pair_at.ensures) in
    c.loop-p.invariant ∙ every_on (pairs image) boundary_pair c.loop-p.p (omega (arith, pairs_there c.requires)) (right image) (tested ∙ c.if-not-is_pair.false)

pub returns : goal.returns
returns c =
    let image = c.args.image.now in
    sym (c.loop-p.invariant ∙ every_done (pairs image) c.loop-p.p (omega (arith, pairs_there c.requires)) (right image))
