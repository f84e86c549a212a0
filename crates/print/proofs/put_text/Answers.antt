-- `put_text` meets its contract: the text is written over its part of the buffer.
use Rattle.print.proofs.Text.{put_part}
use Rattle.print.proofs.put_text.Goals as goal

pub returns : goal.returns
returns c = rw c.copy_from_slice.ensures.after (put_part c.args.out.now c.args.at c.args.text.now c.requires)
