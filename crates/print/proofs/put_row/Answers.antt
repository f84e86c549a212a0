-- `put_row` meets its contract: entries, " | ", pairs and the line end, one after another.
use native.Mathlib.Omega.{arith}
use Rattle.print.proofs.Text.{put_same, put_then, row_text}
use Rattle.print.proofs.put_row.Goals as goal

pub returns : goal.returns
returns c =
    let text = put_then (put_then c.put_numbers-entries_end.ensures.0 (put_then c.put_text-bar_end.ensures c.put_numbers-pairs_end.ensures.0)) c.put_byte.ensures in
    (put_same (row_text c.args.row.now c.number_at-entries.ensures.0 c.number_at-pairs.ensures.0) text, omega (arith, c.put_numbers-entries_end.ensures.1, c.put_text-bar_end.ensures.ends, c.put_numbers-pairs_end.ensures.1, c.put_byte.ensures.ends, c.number_at-entries.ensures.0, c.number_at-pairs.ensures.0, c.requires.0))
