-- `put_decimal` meets its contract: one digit, or the digits before the last, four at most, and then the last.
use native.Mathlib.Omega.{arith}
use mathlib.Core.Path.{sym}
use Prim.Native.Nat.{ℕ, ◌<◌, ◌≤◌, ◌/◌}
use lib.ListN.{length}
use Rattle.model.specs.Lines.{decimal}
use Rattle.print.proofs.Numbers.{decimal_digit, decimal_more, length_decimal}
use Rattle.print.proofs.Text.{put_same, put_then}
use Rattle.print.proofs.+put_decimal.Goals as goal

-- the digits before the last are four at most
few : (n : ℕ) → n < 65536 → length (decimal (n / 10)) ≤ 4
few n h = length_decimal 3 (n / 10) (omega arith)

pub returns-then-n-lt10 : goal.returns-then-n-lt10
returns-then-n-lt10 t c = (put_same (sym (decimal_digit c.args.n c.if-n-lt10.true)) c.put_byte.ensures, omega arith)

pub put_byte-requires-2 : goal.put_byte-requires-2
put_byte-requires-2 t c = omega (arith, few c.args.n (omega arith))

pub returns : goal.returns
returns t c = (put_same (sym (decimal_more c.args.n c.if-n-lt10.false)) (put_then c.put_decimal-end.ensures.0 c.put_byte-2.ensures), omega (arith, few c.args.n (omega arith)))
