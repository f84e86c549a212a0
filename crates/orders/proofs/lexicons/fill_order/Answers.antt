-- `orders::lexicons::fill_order` meets its contract.
use Rattle.orders.proofs.OrderLaws.{ordered_none}
use Rattle.orders.proofs.lexicons.fill_order.Goals as goal

pub loop-init : goal.loop-init
loop-init c = ordered_none c.args.row.now c.args.h.lexicons c.requires.row_len
