-- `in_bounds` meets its contract: the bytes passed are within their bounds, or one is not.
use native.Mathlib.Omega.{arith}
use mathlib.Core.Path.{◌≡◌, ap, ◌∙◌}
use Prim.Native.Nat.{ℕ}
use Rattle.model.specs.Lists.{below, every}
use Rattle.lexicon.specs.Bounds.{in_row}
use Rattle.lexicon.proofs.bounds.in_bounds.Goals as goal

pub returns : goal.returns
returns c =
    let l = c.loop-i in
    let a = c.args in
    let f = in_row a.low.now a.high.now a.row a.image.now a.at in
    let e : l.i ≡ 16 = omega arith in
    l.invariant ∙ ap (λ (k : ℕ). every f (below k)) e
