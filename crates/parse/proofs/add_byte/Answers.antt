-- `add_byte` meets its contract.
use native.Mathlib.Omega.{arith}
use Rattle.parse.proofs.Begun.{line_room, line_full, begun_more, begun_full}
use Rattle.parse.proofs.add_byte.Goals as goal

pub returns-then-n-lt256 : goal.returns-then-n-lt256
returns-then-n-lt256 c =
    let a = c.args in
    record { grows = λ l begun. begun_more a.line.now a.n a.b l begun c.if-n-lt256.true (omega arith); few = omega arith; bytes = line_room a.line.now a.n a.b c.if-n-lt256.true }

pub returns : goal.returns
returns c =
    let a = c.args in
    record { grows = λ l begun. begun_full a.line.now a.n a.b l begun c.if-n-lt256.false; few = c.requires; bytes = line_full a.line.now a.n a.b c.if-n-lt256.false }
