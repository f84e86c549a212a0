-- `filter::onward::narrow` meets its contract: what is kept after the lexicons before the place where the loop stands leaves nothing out.
use Prim.Native.Nat.{suc, ◌+◌}
use native.Mathlib.Omega.{arith}
use mathlib.Core.Path.{◌≡◌, ap, ◌∙◌}
use Rattle.model.specs.Lists.{byte}
use Rattle.model.specs.Blocks.{Header}
use Rattle.forms.specs.Forms.{order_in}
use Rattle.filter.proofs.Parts.{part_byte, part_item}
use Rattle.filter.proofs.onward.narrow.Goals as goal

pub loop-y-init : goal.loop-y-init
loop-y-init c = record { reached = c.requires.reached; reaches = λ q r. r }

pub renew-requires-clause-reached : goal.renew-requires-clause-reached
renew-requires-clause-reached c =
    let forms = c.args.forms.now in
    let k = c.loop-y.y-index in
    let item = part_item forms 31105 c.from-many.result k c.loop-y-test.true in
    let count : c.from-many.result ≡ byte (order_in forms) 0 = c.from-many.ensures ∙ part_byte forms 31104 128 0 (omega arith) in
    let ordered = c.requires.forms_of.ordered k (omega (arith, item.0, count)) in
    let place : 31105 + k ≡ 31104 + suc k = omega arith in
    let here = ap (byte forms) place ∙ part_byte forms 31104 128 (suc k) (omega (arith, item.0, count, c.requires.forms_of.order_few)) in
    (c.loop-y.invariant.reached, omega (arith, c.from.ensures, item.1, here, ordered, ap (λ (g : Header). g.lexicons) c.requires.accepted.laid.header_is))

pub loop-y-preserved : goal.loop-y-preserved
loop-y-preserved c =
    let done = c.renew.ensures in
    record { reached = done.reached; reaches = λ q r. done.reaches q (c.loop-y.invariant.reaches q r) }
