-- `read_header` meets its contract: seven numbers of the first block.
use Rattle.model.proofs.Blocks.{header_read}
use Rattle.image.proofs.read_header.Goals as goal

pub returns : goal.returns
returns c =
    header_read c.args.image.now c.number_at.ensures.0 c.number_at-2.ensures.0 c.number_at-3.ensures.0 c.number_at-4.ensures.0 c.number_at-5.ensures.0 c.number_at-6.ensures.0 c.number_at-7.ensures.0
