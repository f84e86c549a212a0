-- `answer_last` meets its contract: the last line's answer is handed over, and then all is printed.
use Rattle.std.proofs.Common.{◌≤◌, length}
use native.Mathlib.Omega.{arith}
use Rattle.steps.proofs.Sofar.{last_given}
use Rattle.steps.proofs.answer_last.Goals as goal

pub returns : goal.returns
returns g c =
    let read = c.read_end-end in
    let out = read.new.out in
    let fits : read.result ≤ length out = omega (arith, read.ensures.1) in
    let a = c.args in
    last_given a.run.now.image.now a.line.now a.line.now out a.s read.result fits c.requires.within.1 (λ l h. (read.ensures.0 l h).written)
    c.give.result c.give.ensures
