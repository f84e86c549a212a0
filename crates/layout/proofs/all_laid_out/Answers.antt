-- `all_laid_out` meets its contract: every block passed is laid out.
use native.Mathlib.Omega.{arith}
use mathlib.Core.Path.{◌≡◌, refl, sym, ap, ◌∙◌}
use Prim.Native.Nat.{ℕ, ◌+◌, ◌*◌, ◌-◌, ◌/◌}
use lib.ListN.{length}
use Rattle.model.specs.Lists.{below, every}
use Rattle.model.specs.Blocks.{block}
use Rattle.model.proofs.Lists.{every_more, every_fails}
use Rattle.image.specs.Header.{header_of}
use Rattle.layout.proofs.all_laid_out.Invariants.{right}
use Rattle.layout.proofs.all_laid_out.Goals as goal

pub loop-k-init : goal.loop-k-init
loop-k-init c = refl

pub returns-then-not-laid_out : goal.returns-then-not-laid_out
unfolding block
returns-then-not-laid_out c =
    let image = c.args.image.now in
    let k = c.loop-k.k in
    let whole : 512 * k + 512 - 512 * k ≡ 512 = omega arith in
    let failed = rw whole at c.laid_out.ensures in
    sym (every_fails (right image (header_of c.args.h)) (length image / 512) k (omega arith) (sym failed ∙ c.if-not-laid_out.true))

pub loop-k-preserved : goal.loop-k-preserved
unfolding block
loop-k-preserved c =
    let k = c.loop-k.k in
    let whole : 512 * k + 512 - 512 * k ≡ 512 = omega arith in
    let passed = rw whole at c.laid_out.ensures in
    every_more (right c.args.image.now (header_of c.args.h)) k c.loop-k.invariant (sym passed ∙ c.if-not-laid_out.false)

pub returns : goal.returns
returns c =
    let image = c.args.image.now in
    let all : c.loop-k.k ≡ length image / 512 = omega arith in
    sym (ap (λ (n : ℕ). every (right image (header_of c.args.h)) (below n)) (sym all) ∙ c.loop-k.invariant)
