-- `forms::slots::fill_skips` meets its contract.
use Prim.Native.Nat.{◌+◌, ◌-◌}
use native.Mathlib.Omega.{arith}
use mathlib.Core.Path.{◌≡◌, subst}
use Rattle.forms.specs.Filling.{SkipsOf}
use Rattle.forms.proofs.slots.fill_skips.Goals as goal

pub put_skips-requires : goal.put_skips-requires
put_skips-requires c =
    let back : c.loop-i.i ≡ c.loop-i.i - 1 + 1 = omega (arith, c.loop-i-test.true) in
    record { i_lt_n = (omega arith, (c.requires.0, c.requires.1.0)); skips_of = subst (SkipsOf c.args.shared.now c.loop-i.skips c.args.n) back c.loop-i.invariant }

pub returns : goal.returns
returns c =
    let l = c.loop-i in
    let a = c.args in
    let none : l.i ≡ 0 = omega (arith, c.loop-i-test.false) in
    subst (SkipsOf a.shared.now l.skips a.n) none l.invariant
