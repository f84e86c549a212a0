-- `seal_block` meets its contract: the number is stored first, and the check over it.
use Rattle.image.proofs.Stores.{block_stored}
use Rattle.image.proofs.seal.seal_block.Goals as goal

pub returns : goal.returns
returns c =
    block_stored c.args.k c.args.block.now c.put_number.new.bytes c.put_number-2.new.bytes c.check_of-check.result c.requires c.put_number.ensures c.check_of-check.ensures.0 c.put_number-2.ensures
