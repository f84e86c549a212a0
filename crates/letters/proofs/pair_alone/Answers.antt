-- `pair_alone` meets its contract: the pairs that are left decide whether one is the same.
use mathlib.Core.Bool.{not}
use mathlib.Core.Path.{sym, ap, ap₂, ◌∙◌}
use native.Mathlib.Omega.{arith}
use Rattle.model.specs.RuleTables.{pairs, boundary_pair, same_pair}
use Rattle.model.proofs.Rest.{any_on, any_found, any_done}
use Rattle.letters.proofs.Laws.{pairs_there, pair_at}
use Rattle.letters.proofs.pair_alone.Goals as goal

pub returns-then-eq : goal.returns-then-eq
returns-then-eq c =
    let image = c.args.image.now in
    let same = sym (c.eq.ensures ∙ ap₂ same_pair c.pair_at-own.ensures c.pair_at.ensures) ∙ c.if-eq.true in
    sym (ap not (c.loop-q.invariant ∙ any_found (pairs image) boundary_pair c.loop-q.q (omega (arith, pairs_there c.requires.0)) (same_pair (pair_at image c.args.p)) same))

pub loop-q-preserved : goal.loop-q-preserved
loop-q-preserved c =
    let image = c.args.image.now in
    let unlike = sym (c.eq.ensures ∙ ap₂ same_pair c.pair_at-own.ensures c.pair_at.ensures) ∙ c.if-eq.false in
    c.loop-q.invariant ∙ any_on (pairs image) boundary_pair c.loop-q.q (omega (arith, pairs_there c.requires.0)) (same_pair (pair_at image c.args.p)) unlike

pub returns : goal.returns
returns c =
    let image = c.args.image.now in
    sym (ap not (c.loop-q.invariant ∙ any_done (pairs image) c.loop-q.q (omega (arith, pairs_there c.requires.0)) (same_pair (pair_at image c.args.p))))
