-- `weighted_sum` meets its contract: the rows' sum, and the last six bytes one by one.
use native.Mathlib.Omega.{arith}
use mathlib.Core.Path.{◌≡◌, sym, ap, ap₂, ◌∙◌}
use mathlib.Core.List.{List}
use Prim.Native.Nat.{ℕ, ◌+◌, ◌*◌, ◌<◌}
use lib.ListN.{length, take}
use Rattle.model.specs.Lists.{byte}
use Rattle.model.specs.Blocks.{weighted_sum}
use Rattle.model.proofs.Blocks.{weighted_sum_more}
use Rattle.model.proofs.BlockSum.{begun_sum_most, block_sum_most}
use Rattle.sum.proofs.weighted_sum.Goals as goal

-- with the byte of a turn
more : (block : List ℕ) (i sum x : ℕ) → i < length block → sum ≡ weighted_sum 0 (take i block) → x ≡ byte block i → sum + (i + 1) * x ≡ weighted_sum 0 (take (i + 1) block)
more block i sum x h e f = ap₂ (λ (m n : ℕ). m + (i + 1) * n) e f ∙ sym (weighted_sum_more i block h)

pub overflow_add-sum-in-loop-i : goal.overflow_add-sum-in-loop-i
overflow_add-sum-in-loop-i c =
    let block = c.args.block.now in
    let i = c.loop-i.i in
    omega (arith, more block i _ _ (omega arith) c.loop-i.invariant c.from.ensures, begun_sum_most block (λ i. omega (arith, c.type_inv.block i)) (i + 1) (omega arith))

pub loop-i-preserved : goal.loop-i-preserved
loop-i-preserved c = more c.args.block.now c.loop-i.i _ _ (omega arith) c.loop-i.invariant c.from.ensures

pub returns : goal.returns
returns c =
    let block = c.args.block.now in
    let all : c.loop-i.i ≡ 510 = omega arith in
    let sum = c.loop-i.invariant ∙ ap (λ (n : ℕ). weighted_sum 0 (take n block)) all in
    (sum, omega (arith, sum, block_sum_most block (λ i. omega (arith, c.type_inv.block i))))
