-- `forms::slots::fill_shared` meets its contract.
use Prim.Native.Nat.{ℕ, ◌+◌, ◌-◌, ◌≤◌}
use native.Mathlib.Omega.{arith}
use mathlib.Core.Path.{◌≡◌, sym, subst}
use Rattle.forms.proofs.SlotLaws.{shared_none, shared_more, shared_fewer}
use Rattle.forms.specs.Slots.{slot_length}
use Rattle.forms.proofs.slots.fill_shared.Goals as goal

pub loop-i-init : goal.loop-i-init
loop-i-init c = shared_none c.args.slots.now c.args.shared.now c.requires.slots_len.1.1

pub shared_by-requires : goal.shared_by-requires
shared_by-requires c =
    let l = c.loop-i in
    let back : l.i - 1 + 1 ≡ l.i = omega (arith, c.loop-i.auto.i) in
    record {
      slots_len = (c.requires.slots_len.0, omega (arith, c.requires.slots_len.1.0, c.loop-i-test.true));
      i_bound =
          (c.requires.by_index (l.i - 1) (omega (arith, c.loop-i-test.true)), subst (λ (j : ℕ). slot_length c.args.slots.now j ≤ 12) (sym back) (c.requires.by_index l.i c.loop-i-test.true));
    }

pub overflow_cast-shared : goal.overflow_cast-shared
overflow_cast-shared c =
    omega (arith, c.shared_by.ensures.this, c.requires.by_index (c.loop-i.i - 1) (omega (arith, c.loop-i-test.true)))

pub loop-i-preserved : goal.loop-i-preserved
loop-i-preserved c =
    let l = c.loop-i in
    shared_more c.args.slots.now l.shared l.i (l.i - 1) c.shared_by.result l.invariant (omega (arith, l.auto.i)) (omega (arith, c.loop-i-test.true, c.requires.slots_len.1.0)) c.shared_by.ensures

pub returns : goal.returns
returns c =
    let l = c.loop-i in
    shared_fewer c.args.slots.now l.shared c.args.n l.i c.loop-i-test.false l.invariant
