-- `orders::lexicons::append` meets its contract.
use Prim.Native.Nat.{◌+◌}
use mathlib.Core.Path.{refl}
use Rattle.orders.proofs.OrderLaws.{ordered_more}
use Rattle.orders.proofs.lexicons.append.Goals as goal

pub returns-then-n-lt64 : goal.returns-then-n-lt64
returns-then-n-lt64 c =
    let n = c.byte_at-n in
    ordered_more c.args.row.now c.args.lexicons n.result c.args.x (n.result + 1) c.requires.ordered n.ensures.0 c.if-n-lt64.true c.requires.x_lt_lexicons.0 refl
