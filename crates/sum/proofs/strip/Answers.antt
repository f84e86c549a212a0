-- `strip` meets its contract: two running sums, from the last row up.
use native.Mathlib.Omega.{arith}
use Rattle.sum.specs.Sums.{strip_byte}
use Rattle.sum.proofs.Totals.{run_one, run_most, run_all}
use Rattle.sum.proofs.Sums.{strip_most}
use Rattle.sum.proofs.strip.Goals as goal

pub overflow_add-rows : goal.overflow_add-rows
overflow_add-rows c = omega (arith, run_most _ _ c.loop-q.invariant c.loop-q-test.true, (strip_most c.args.block.now (λ i. omega (arith, c.type_inv.block i)) c.args.from).1)

pub overflow_add-sum : goal.overflow_add-sum
overflow_add-sum c =
    let one = run_one 9 (strip_byte c.args.block.now c.args.from) c.loop-q.invariant _ c.loop-q-test.true c.from-sum.ensures in
    omega (arith, one.sum_is, (strip_most c.args.block.now (λ i. omega (arith, c.type_inv.block i)) c.args.from).0)

pub loop-q-preserved : goal.loop-q-preserved
loop-q-preserved c = run_one 9 (strip_byte c.args.block.now c.args.from) c.loop-q.invariant _ c.loop-q-test.true c.from-sum.ensures

pub returns : goal.returns
returns c = run_all 9 (strip_byte c.args.block.now c.args.from) c.loop-q.invariant (omega arith)
