-- `put_spaced` meets its contract: the first number stands alone, any other after a space.
use native.Mathlib.Omega.{arith}
use Rattle.print.proofs.Numbers.{spaced_after}
use Rattle.print.proofs.Text.{put_same, put_then}
use Rattle.print.proofs.put_spaced.Goals as goal

pub returns : goal.returns
returns c =
    let one = c.put_byte-end.ensures in
    (put_same (spaced_after c.args.i c.args.n c.if-i-eq0.false) (put_then one c.put_number-2.ensures.0), omega (arith, c.put_number-2.ensures.1))
