-- `reply_number` meets its contract: the reply's case is known in each arm.
use mathlib.Core.Path.{refl}
use Rattle.model.specs.Rows.{reply_number}
use Rattle.rows.proofs.reply_number.Goals as goal

pub returns-in-All : goal.returns-in-All
unfolding reply_number
returns-in-All c = rw (c.in-Ok.is, c.in-All.is) refl

pub returns-in-More : goal.returns-in-More
unfolding reply_number
returns-in-More c = rw (c.in-Ok.is, c.in-More.is) refl

pub returns-in-None : goal.returns-in-None
unfolding reply_number
returns-in-None c = rw (c.in-Ok.is, c.in-None.is) refl

pub returns-in-Err : goal.returns-in-Err
unfolding reply_number
returns-in-Err c = rw (c.in-Err.is, c.from.ensures, c.number.ensures.number) refl
