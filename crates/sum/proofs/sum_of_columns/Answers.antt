-- `sum_of_columns` meets its contract: running sums, from the last column down.
use native.Mathlib.Omega.{arith}
use lib.ListN.{get_or}
use Rattle.sum.proofs.Totals.{added_one, added_all, run_one, run_all}
use Rattle.sum.proofs.sum_of_columns.Goals as goal

pub loop-c-preserved : goal.loop-c-preserved
loop-c-preserved c =
    let k = c.args.k.now in
    let all = c.loop-c.invariant in
    let more = c.loop-c-test.true in (
      run_one 8 (λ i. get_or k.sums i 0) all.0 _ more c.from-sum.ensures,
      (
        added_one 8 (λ i. get_or k.rows i 0) _ all.1.0 _ more c.from-by_row.ensures,
        (added_one 8 (λ i. get_or k.strips i 0) _ all.1.1.0 _ more c.from-by_strip.ensures, (omega arith, (omega arith, (omega arith, omega arith)))),
      ),
    )

pub returns : goal.returns
returns c =
    let k = c.args.k.now in
    let all = c.loop-c.invariant in
    let run = run_all 8 (λ i. get_or k.sums i 0) all.0 (omega arith) in
    let rows = added_all 8 (λ i. get_or k.rows i 0) _ all.1.0 (omega arith) in
    let strips = added_all 8 (λ i. get_or k.strips i 0) _ all.1.1.0 (omega arith) in
    omega (arith, run.0, run.1, rows, strips)
