-- `put_ended` meets its contract: what ends is offered.
use native.Mathlib.Omega.{arith}
use mathlib.Core.Path.{◌∙◌, sym}
use Rattle.rows.proofs.Offering.{offer_none, offer_one}
use Rattle.ahead.proofs.here.put_ended.Goals as goal

pub ends-requires : goal.ends-requires
ends-requires c =
    let underway = c.requires.underway in
    record { accepted = underway.accepted; index_value = underway.indexed; standing = (underway.stands, omega (arith, c.requires.to_le_from, underway.stands.in_order)) }

pub returns-then-not-ends : goal.returns-then-not-ends
returns-then-not-ends c =
    let a = c.args in
    rw (sym (c.ends.ensures a.trail.pairs) ∙ c.if-not-ends.true) (sym (offer_none _ _))

pub returns : goal.returns
returns c =
    let a = c.args in
    c.offer.ensures ∙ rw (sym (c.ends.ensures a.trail.pairs) ∙ c.if-not-ends.false) (sym (offer_one _ _ _))
