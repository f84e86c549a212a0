-- `put_rows` meets its contract: at the loop's head the first j rows are put, and each takes at most 344 bytes.
use native.Mathlib.Omega.{arith}
use mathlib.Core.Path.{sym, ap, ◌∙◌}
use mathlib.Core.List.{List, ◌++◌}
use Prim.Native.Nat.{ℕ}
use Rattle.model.specs.Lines.{printed_row}
use Rattle.print.specs.Text.{row_reading, printed_rows}
use Rattle.print.proofs.Text.{put_same, put_then, row_part, rows_more}
use Rattle.print.proofs.put_rows.Goals as goal

pub put_row-end-requires : goal.put_row-end-requires
put_row-end-requires c =
    (rw (row_part c.args.rows.now c.loop-j.j) (c.requires.0.each c.loop-j.j c.loop-j-test.true), omega (arith, c.loop-j.invariant.1.same_length))

pub loop-j-preserved : goal.loop-j-preserved
loop-j-preserved c =
    let rows = c.args.rows.now in
    let j = c.loop-j.j in
    let more = ap (λ (row : List ℕ). printed_rows rows j ++ printed_row (row_reading row)) (row_part rows j) ∙ sym (rows_more rows j) in
    (omega (arith, c.put_row-end.ensures.1), put_same more (put_then c.loop-j.invariant.1 c.put_row-end.ensures.0))
