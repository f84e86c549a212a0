use Rattle.orders.specs.Orders.{Ordered}
use Rattle.orders.proofs.lexicons.fill_order.Given as goal

abbrev pub invariant-loop : goal.invariant-loop
invariant-loop l = Ordered l.row l.h.lexicons
