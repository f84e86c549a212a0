-- `forms::slots::fill_slots` meets its contract.
use Prim.Native.Nat.{◌%◌, ◌<◌}
use native.Mathlib.Omega.{arith}
use mathlib.Core.Path.{◌≡◌, refl, subst}
use lib.ListN.{get_or}
use Rattle.forms.specs.Filling.{SlotsOf}
use Rattle.image.specs.Header.{header_of}
use Rattle.orders.proofs.AcceptedLaws.{arranged_within}
use Rattle.forms.proofs.SlotLaws.{slots_none, slots_more}
use Rattle.forms.proofs.slots.fill_slots.Goals as goal

pub loop-i-init : goal.loop-i-init
loop-i-init c =
    slots_none c.args.image.now c.args.keys.now c.args.slots.now c.requires.slots_len

pub put_slot-requires : goal.put_slot-requires
put_slot-requires c =
    let a = c.args in
    let i = c.loop-i.i in
    let named = arranged_within a.image.now (header_of a.h) c.requires.accepted a.keys.now c.requires.arranged_to i c.loop-i-test.true in
    let room : i < 2816 = omega (arith, c.loop-i-test.true, c.requires.accepted.laid.limits.entries_most) in
    record { laid = c.requires.accepted.laid; e_lt_entries = (named, (c.loop-i.invariant.long, room)) }

pub loop-i-preserved : goal.loop-i-preserved
loop-i-preserved c =
    let a = c.args in
    slots_more a.image.now a.keys.now c.loop-i.slots c.put_slot.new.slots c.loop-i.i (get_or a.keys.now c.loop-i.i 0 % 4096) c.loop-i.invariant c.put_slot.ensures refl

pub returns : goal.returns
returns c =
    let l = c.loop-i in
    let a = c.args in
    let all : l.i ≡ a.h.entries = omega arith in
    subst (SlotsOf a.image.now a.keys.now l.slots) all l.invariant
