-- `seal` meets its contract: a length that is wrong is refused, and past that test the blocks passed are sealed.
use native.Mathlib.Omega.{arith}
use mathlib.Core.Bool.{true, false}
use mathlib.Core.Path.{◌≡◌, refl, sym, ap, ◌∙◌}
use Prim.Native.Nat.{◌/◌}
use lib.ListN.{length}
use Rattle.model.specs.Refusals.{right_length}
use Rattle.model.specs.Calls.{sealing_reply, after_sealing}
use Rattle.model.proofs.Sealing.{right_blocks}
use Rattle.image.proofs.Stores.{sealed_to, sealed_none, sealed_more, sealed_all}
use Rattle.image.proofs.seal.seal.Goals as goal

pub returns-then-not-right_length : goal.returns-then-not-right_length
unfolding sealing_reply after_sealing right_length
returns-then-not-right_length c =
    let e : right_length c.args.image.now ≡ false = sym c.right_length.ensures ∙ c.if-not-right_length.true in
    (rw e refl, rw e refl)

pub loop-k-init : goal.loop-k-init
unfolding right_length
loop-k-init c = (right_blocks c.args.image.now (sym c.right_length.ensures ∙ c.if-not-right_length.false), sealed_none _)

pub loop-k-preserved : goal.loop-k-preserved
loop-k-preserved c =
    let image = c.args.image.now in
    let whole = c.loop-k.invariant.0 in
    (whole, sealed_more image (length image / 512) whole c.loop-k.k c.loop-k.image c.seal_block.new.block (omega arith) c.loop-k.invariant.1 c.seal_block.ensures)

pub returns : goal.returns
unfolding sealing_reply after_sealing right_length
returns c =
    let image = c.args.image.now in
    let e : right_length image ≡ true = sym c.right_length.ensures ∙ c.if-not-right_length.false in
    let k : c.loop-k.k ≡ length image / 512 = omega arith in
    (rw e refl, rw e (c.loop-k.invariant.1 ∙ ap (sealed_to image) k ∙ sealed_all image (length image / 512) c.loop-k.invariant.0))
