-- `lead` meets its contract: at the loop's head what is found is what was to be found, with no more steps left.
use native.Mathlib.Omega.{arith}
use mathlib.Core.Path.{sym, ap, ◌∙◌}
use lib.ListN.{length-set}
use Rattle.model.specs.Blocks.{Header}
use Rattle.model.specs.Query.{anything}
use Rattle.rows.proofs.Longer.{longer_pair}
use Rattle.ahead.proofs.Trying.{tried_over, tried_on, tried_underway, tried_less, left_pairing, full_over}
use Rattle.ahead.proofs.forced.lead.Goals as goal

pub returns-then-way-ge40 : goal.returns-then-way-ge40
returns-then-way-ge40 c t =
    let f = c.loop-at.invariant.1 t in
    sym f.goes ∙ full_over f.underway c.loop-at-test.true _ c.if-way-ge40.true

pub try_all-requires-clause-standing : goal.try_all-requires-clause-standing
try_all-requires-clause-standing c = (c.loop-at.invariant.1 anything).underway.stands

pub returns-in-Nothing : goal.returns-in-Nothing
returns-in-Nothing c t =
    let f = c.loop-at.invariant.1 t in
    let left = c.loop-at-test.true in
    sym f.goes ∙ tried_over (left_pairing f.underway left c.if-way-ge40.false) left _ (c.in-Nothing.ensures t)

pub overflow_cast-way : goal.overflow_cast-way
overflow_cast-way c =
    let laid = c.requires.accepted.laid in
    record { fits = omega (arith, (c.in-One.ensures anything).is_pair, ap (λ (g : Header). g.pairs) laid.header_is, laid.limits.pairs_most) }

pub loop-at-preserved : goal.loop-at-preserved
loop-at-preserved c =
    let way = c.loop-at.way in
    let one = c.in-One in
    let left = c.loop-at-test.true in
    let spare = c.if-way-ge40.false in
    let long = c.loop-at.invariant.0 in (
      length-set way.pairing way.pairs one.pair ∙ long,
      λ t.
          let f = c.loop-at.invariant.1 t in
          let o = left_pairing f.underway left spare in
          let sole = one.ensures t in
          let holds = longer_pair way f.underway.short spare (omega (arith, long, spare)) one.pair in
          record {
            goes = tried_on o left _ sole holds ∙ f.goes;
            underway = tried_underway o left _ sole holds;
            no_more = omega (arith, tried_less o left _ sole holds, f.no_more);
          },
    )
