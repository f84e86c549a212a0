-- `forms::slots::put_skips` meets its contract.
use Prim.Native.Nat.{ℕ, ◌+◌, ◌<◌}
use native.Mathlib.Omega.{arith}
use mathlib.Core.Path.{sym, subst}
use mathlib.Core.List.{List}
use Rattle.forms.specs.Slots.{skip_to}
use Rattle.forms.specs.Filling.{SkipAt, SkipsOf}
use Rattle.forms.proofs.SkipLaws.{skips_kept, skips_more, skips_slot}
use Rattle.forms.proofs.slots.put_skips.Goals as goal

pub loop-d-preserved : goal.loop-d-preserved
loop-d-preserved c =
    let got = c.skip_of-to in
    let a = c.args in
    let l = c.loop-d in
    let e = c.put_number.ensures in
    let deep : l.d < 12 = c.loop-d-test.true in
    let small : got.result < 65536 = omega (arith, got.ensures.inside, c.requires.i_lt_n.1.0) in
    let inside : a.i < 2816 = omega (arith, c.requires.i_lt_n) in
    record {
      later = subst (λ (x : List ℕ). SkipsOf a.shared.now x a.n (a.i + 1)) (sym e) (skips_kept a.shared.now l.skips a.n a.i l.d got.result inside deep small l.invariant.later);
      here =
          subst (λ (x : List ℕ). (f : ℕ) → f < l.d + 1 → SkipAt a.shared.now a.n a.i f (skip_to x a.i f)) (sym e)
          (skips_more a.shared.now l.skips a.n a.i l.d got.result inside deep small l.invariant.later.long got.ensures l.invariant.here);
    }

pub returns : goal.returns
returns c =
    let l = c.loop-d in
    let a = c.args in
    skips_slot a.shared.now l.skips a.n a.i l.invariant.later (λ f h. l.invariant.here f (omega arith))
