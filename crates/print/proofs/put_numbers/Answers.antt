-- `put_numbers` meets its contract: at the loop's head the first i numbers are put, and each takes at most six bytes.
use native.Mathlib.Omega.{arith}
use mathlib.Core.Path.{sym, ap, ◌∙◌}
use mathlib.Core.List.{◌++◌}
use Prim.Native.Nat.{ℕ}
use Rattle.model.specs.Lines.{spaced}
use Rattle.print.specs.Text.{numbers_from, spaced_at}
use Rattle.print.proofs.Numbers.{numbers_none, numbers_more}
use Rattle.print.proofs.Text.{put_none, put_same, put_then}
use Rattle.print.proofs.put_numbers.Goals as goal

pub loop-i-init : goal.loop-i-init
loop-i-init c =
    (omega arith, put_same (numbers_none c.args.row.now c.args.from) (put_none c.args.out.now c.args.at))

pub loop-i-preserved : goal.loop-i-preserved
loop-i-preserved c =
    let i = c.loop-i.i in
    let so_far = spaced (numbers_from c.args.row.now c.args.from i) in
    let more = ap (λ (n : ℕ). so_far ++ spaced_at i n) c.number_at.ensures.0 ∙ sym (numbers_more c.args.row.now c.args.from i) in
    (omega (arith, c.put_spaced-end.ensures.1), put_same more (put_then c.loop-i.invariant.1 c.put_spaced-end.ensures.0))
