-- `filter::word::add_rows` meets its contract: up to row s all letters of the rows from low on have the positions; the loop ends past the highest row.
use Prim.Native.Nat.{◌+◌}
use native.Mathlib.Omega.{arith}
use mathlib.Core.Path.{◌∙◌}
use Rattle.filter.proofs.Adding.{rows_none, rows_more, rows_fewer}
use Rattle.filter.proofs.word.add_rows.Goals as goal

pub loop-s-init : goal.loop-s-init
loop-s-init c = rows_none c.args.rows.now c.args.masks.now c.args.low c.args.one

pub add_row-requires : goal.add_row-requires
add_row-requires c =
    let in_row = c.loop-s-test.true in
    record {
      rowed = c.requires.by_index c.loop-s.s (omega (arith, in_row));
      s_bound = (omega (arith, in_row, c.requires.high_bound.0), c.loop-s.invariant.long ∙ c.requires.high_bound.1.1);
    }

pub loop-s-preserved : goal.loop-s-preserved
loop-s-preserved c =
    let a = c.args in
    rows_more a.rows.now a.masks.now c.loop-s.masks _ a.low c.loop-s.s a.one c.loop-s.invariant c.add_row.ensures

pub shape_of-masks : goal.shape_of-masks
shape_of-masks c = c.loop-s.invariant.long

-- s is past the highest row
pub returns : goal.returns
returns c =
    let a = c.args in
    rows_fewer a.rows.now a.masks.now c.loop-s.masks a.low c.loop-s.s (a.high + 1) a.one (omega (arith, c.loop-s-test.false)) c.loop-s.invariant
