use Rattle.orders.specs.Orders.{Ordered}
use Rattle.orders.proofs.lexicons.take_round.Given as goal

abbrev pub invariant-loop-x : goal.invariant-loop-x
invariant-loop-x l = Ordered l.row l.h.lexicons
