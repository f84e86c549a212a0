-- `put_line` meets its contract: the word, the number and the line end, one after another.
use native.Mathlib.Omega.{arith}
use Rattle.print.proofs.Text.{put_then}
use Rattle.print.proofs.put_line.Goals as goal

pub returns : goal.returns
returns c =
    (put_then c.put_text-word_end.ensures (put_then c.put_number-number_end.ensures.0 c.put_byte.ensures), omega arith)
