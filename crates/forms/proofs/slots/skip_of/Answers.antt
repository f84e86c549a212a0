-- `forms::slots::skip_of` meets its contract.
use Prim.Native.Nat.{◌+◌}
use native.Mathlib.Omega.{arith}
use mathlib.Core.Path.{sym, subst}
use Rattle.forms.specs.Filling.{SkipAt}
use Rattle.forms.proofs.SkipLaws.{skip_next}
use Rattle.forms.proofs.slots.skip_of.Goals as goal

pub returns : goal.returns
returns c =
    let a = c.args in
    skip_next a.shared.now a.n a.i a.d c.number_at.result (omega (arith, c.if-byte_at-d.false, c.byte_at.ensures.0))
    (subst (SkipAt a.shared.now a.n (a.i + 1) a.d) (sym c.number_at.ensures.0) (c.requires.skips_of.each (a.i + 1) (omega arith) (omega (arith, c.if-next-n.false)) a.d c.requires.i_lt_n.1.1.0))
