-- `put_number` meets its contract: one digit is the number itself.
use native.Mathlib.Omega.{arith}
use mathlib.Core.Path.{sym}
use Rattle.print.proofs.Numbers.{decimal_digit}
use Rattle.print.proofs.Text.{put_same}
use Rattle.print.proofs.put_number.Goals as goal

pub returns-then-n-lt10 : goal.returns-then-n-lt10
returns-then-n-lt10 c =
    (put_same (sym (decimal_digit c.args.n c.if-n-lt10.true)) c.put_byte.ensures, omega arith)
