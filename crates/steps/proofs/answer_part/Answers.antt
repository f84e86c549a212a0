-- `answer_part` meets its contract: what is answered is handed over.
use Rattle.std.proofs.Common.{◌-◌, ◌≤◌, [], length}
use native.Mathlib.Omega.{arith}
use mathlib.Core.Path.{refl, sym, ap, ◌∙◌}
use mathlib.Core.List.{append-nil}
use lib.ListN.{take, drop}
use lib.Seq.{length-take-le}
use Rattle.steps.specs.Sofar.{waiting}
use Rattle.steps.proofs.Sofar.{parts_join, went_on}
use Rattle.steps.proofs.answer_part.Goals as goal

pub returns : goal.returns
returns g c =
    let stand = c.args.s in
    let chunk = c.args.chunk.now in
    let read = c.read_chunk-read in
    let out = read.new.out in
    let end = read.result.reached.end in
    let fits : end ≤ length out = omega (arith, read.ensures.text.1) in
    let long = length-take-le end out fits in
    let inside : stand.n ≤ length chunk = omega (arith, c.requires.within.inside) in
    let part = length-take-le stand.n chunk inside in
    let stop : read.result.at ≤ stand.n = omega (arith, read.ensures.onward.1.0, part) in
    let answered = take (read.result.at - stand.at) (drop stand.at (take stand.n chunk)) in
    let order = append-nil (waiting chunk stand) ∙ sym (parts_join chunk stand.at read.result.at stand.n read.ensures.onward.0 stop inside) in
    went_on c.args.run.now.image.now chunk chunk c.args.line.now read.new.line stand _ answered [] (take end out)
    order
    (λ l h. (read.ensures.line.0 l h).begun)
    (λ l h. (read.ensures.text.0 l h).written)
    (omega arith)
    c.in_ok-handed.ensures
    out
    refl
    (sym (ap (λ n. take n out) long))
    (omega arith)
    (omega (arith, long, read.ensures.text.1))
    stop
    c.requires.within.inside
    read.ensures.line.1
