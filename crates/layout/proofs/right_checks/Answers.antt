-- `right_checks` meets its contract: every block passed has its number and its check.
use native.Mathlib.Omega.{arith}
use mathlib.Core.Path.{◌≡◌, refl, sym, ap, ◌∙◌}
use Prim.Native.Nat.{ℕ, ◌+◌, ◌*◌, ◌-◌, ◌/◌}
use lib.ListN.{length}
use Rattle.model.specs.Lists.{below, every}
use Rattle.model.specs.Blocks.{block}
use Rattle.model.specs.Refusals.{right_checks}
use Rattle.model.proofs.Lists.{every_more, every_fails}
use Rattle.layout.proofs.right_checks.Invariants.{right}
use Rattle.layout.proofs.right_checks.Goals as goal

pub loop-k-init : goal.loop-k-init
loop-k-init c = refl

pub returns-then-not-right_block : goal.returns-then-not-right_block
unfolding right_checks block
returns-then-not-right_block c =
    let image = c.args.image.now in
    let k = c.loop-k.k in
    let whole : 512 * k + 512 - 512 * k ≡ 512 = omega arith in
    let failed = rw whole at c.right_block.ensures in
    sym (every_fails (right image) (length image / 512) k (omega arith) (sym failed ∙ c.if-not-right_block.true))

pub loop-k-preserved : goal.loop-k-preserved
unfolding block
loop-k-preserved c =
    let k = c.loop-k.k in
    let whole : 512 * k + 512 - 512 * k ≡ 512 = omega arith in
    let passed = rw whole at c.right_block.ensures in
    every_more (right c.args.image.now) k c.loop-k.invariant (sym passed ∙ c.if-not-right_block.false)

pub returns : goal.returns
unfolding right_checks
returns c =
    let image = c.args.image.now in
    let all : c.loop-k.k ≡ length image / 512 = omega arith in
    sym (ap (λ (n : ℕ). every (right image) (below n)) (sym all) ∙ c.loop-k.invariant)
