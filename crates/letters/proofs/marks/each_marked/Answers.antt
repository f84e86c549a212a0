-- `each_marked` meets its contract: what is left of the letters decides.
use native.Mathlib.Omega.{arith}
use borrow.Author.Tests.{eq-eqb, ne_eqb}
use mathlib.Core.Path.{sym, ap, ◌∙◌}
use Prim.Native.Nat.{◌+◌}
use Rattle.model.specs.Lists.{below}
use Rattle.model.proofs.Lists.{length_below, get_d_below}
use Rattle.model.proofs.Rest.{every_on, every_fails, every_done}
use Rattle.letters.specs.Marks.{is_marked}
use Rattle.letters.proofs.marks.each_marked.Goals as goal

pub returns-then-marks-a-ne1 : goal.returns-then-marks-a-ne1
returns-then-marks-a-ne1 c =
    let n = c.args.letters + 1 in
    let a = c.loop-a.a in
    let marked = is_marked c.args.marks.now in
    let fails = ap marked (get_d_below n a (omega arith)) ∙ ne_eqb _ 1 c.if-marks-a-ne1.true in
    sym (every_fails (below n) 0 a (omega (arith, length_below n)) marked fails) ∙ c.loop-a.invariant

pub loop-a-preserved : goal.loop-a-preserved
loop-a-preserved c =
    let n = c.args.letters + 1 in
    let a = c.loop-a.a in
    let marked = is_marked c.args.marks.now in
    let holds = ap marked (get_d_below n a (omega arith)) ∙ eq-eqb _ 1 c.if-marks-a-ne1.false in
    sym (every_on (below n) 0 a (omega (arith, length_below n)) marked holds) ∙ c.loop-a.invariant

pub returns-else-marks-a-ne1 : goal.returns-else-marks-a-ne1
returns-else-marks-a-ne1 c =
    let n = c.args.letters + 1 in
    let a = c.loop-a.a in
    let marked = is_marked c.args.marks.now in
    let holds = ap marked (get_d_below n a (omega arith)) ∙ eq-eqb _ 1 c.if-marks-a-ne1.false in
    let last = every_on (below n) 0 a (omega (arith, length_below n)) marked holds ∙ every_done (below n) (a + 1) (omega (arith, length_below n)) marked in
    sym last ∙ c.loop-a.invariant
