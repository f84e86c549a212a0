-- `put_unread` meets its contract: one word, whatever the image.
use native.Mathlib.Omega.{arith}
use Rattle.model.specs.Lines.{printed_line}
use Rattle.print.proofs.put_unread.Goals as goal

pub returns : goal.returns
unfolding printed_line
returns c = let put = c.put_text.ensures in (λ image. put, omega arith)
