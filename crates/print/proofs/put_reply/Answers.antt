-- `put_reply` meets its contract: the reply's case is known in each arm.
use native.Mathlib.Omega.{arith}
use Rattle.model.specs.Lines.{digits, printed_reply}
use Rattle.print.proofs.put_reply.Goals as goal
use Rattle.print.proofs.put_reply.Goals.{In-All, In-More}

pub returns-in-All : goal.returns-in-All
unfolding printed_reply
returns-in-All c =
    rw (c.in-Ok.is, c.in-All.is) (c.put_line.ensures.0, omega (arith, c.put_line.ensures.1))

pub returns-in-More : goal.returns-in-More
unfolding printed_reply
returns-in-More c =
    rw (c.in-Ok.is, c.in-More.is) (c.put_line-in-More.ensures.0, omega (arith, c.put_line-in-More.ensures.1))

pub returns-in-None : goal.returns-in-None
unfolding printed_reply digits
returns-in-None c =
    rw (c.in-Ok.is, c.in-None.is) (c.put_line-in-None.ensures.0, omega (arith, c.put_line-in-None.ensures.1))

pub returns-in-Err : goal.returns-in-Err
unfolding printed_reply
returns-in-Err c =
    rw (c.in-Err.is, ← c.number.ensures.number, ← c.from.ensures) (c.put_line-in-Err.ensures.0, omega (arith, c.put_line-in-Err.ensures.1))
