-- `column` meets its contract: running sums, from the last strip up.
use native.Mathlib.Omega.{arith}
use Rattle.sum.specs.Sums.{sum_in, rows_in}
use Rattle.sum.proofs.Totals.{added_one, added_all, run_one, run_most, run_all}
use Rattle.sum.proofs.Sums.{column_most}
use Rattle.sum.proofs.column.Goals as goal

pub overflow_add-strips : goal.overflow_add-strips
overflow_add-strips c =
    omega (arith, run_most _ _ c.loop-p.invariant.0 c.loop-p-test.true, (column_most c.args.block.now (λ i. omega (arith, c.type_inv.block i)) c.args.c).1.1)

pub overflow_add-sum : goal.overflow_add-sum
overflow_add-sum c =
    let one = run_one 7 (sum_in c.args.block.now c.args.c) c.loop-p.invariant.0 _ c.loop-p-test.true c.strip-s.ensures.0 in
    omega (arith, one.sum_is, (column_most c.args.block.now (λ i. omega (arith, c.type_inv.block i)) c.args.c).0)

pub overflow_add-rows : goal.overflow_add-rows
overflow_add-rows c =
    let one = added_one 7 (rows_in c.args.block.now c.args.c) _ c.loop-p.invariant.1 _ c.loop-p-test.true c.strip-s.ensures.1 in
    omega (arith, one, (column_most c.args.block.now (λ i. omega (arith, c.type_inv.block i)) c.args.c).1.0)

pub loop-p-preserved : goal.loop-p-preserved
loop-p-preserved c = (
  run_one 7 (sum_in c.args.block.now c.args.c) c.loop-p.invariant.0 _ c.loop-p-test.true c.strip-s.ensures.0,
  added_one 7 (rows_in c.args.block.now c.args.c) _ c.loop-p.invariant.1 _ c.loop-p-test.true c.strip-s.ensures.1,
)

pub returns : goal.returns
returns c =
    let run = run_all 7 (sum_in c.args.block.now c.args.c) c.loop-p.invariant.0 (omega arith) in
    (run.0, (added_all 7 (rows_in c.args.block.now c.args.c) _ c.loop-p.invariant.1 (omega arith), run.1))
