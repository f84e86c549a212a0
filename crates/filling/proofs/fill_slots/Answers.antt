-- `filling::fill_slots` meets its contract: the slots are put in place, and after them their skips and what they share.
use native.Mathlib.Omega.{arith}
use mathlib.Core.Path.{refl, sym, ap, ◌∙◌, subst}
use mathlib.Core.List.{List}
use Prim.Native.Nat.{ℕ}
use lib.ListN.{length}
use Rattle.forms.specs.Filling.{Held}
use Rattle.filling.proofs.FormsLaws.{with_slots, with_skips, slots_put, slots_put_long, skips_put_long, shared_put_long, slots_filled}
use Rattle.filling.proofs.Parts.{part_long}
use Rattle.filling.proofs.fill_slots.Goals as goal

pub slice_bounds-share-end : goal.slice_bounds-share-end
slice_bounds-share-end c = omega (arith, slots_put_long c.args.out.now c.hold.new.slots c.requires.out_len c.hold.ensures.held.long)

pub share-requires : goal.share-requires
share-requires c =
    let put = slots_put c.args.out.now c.hold.new.slots c.requires.out_len c.hold.ensures.held.long in
    record { accepted = c.requires.accepted; held = subst (λ (l : List ℕ). Held c.args.image.now l c.args.h.lexicons c.args.h.entries) (sym put.here) c.hold.ensures; shared_len = refl }

pub slice_bounds-fill_skips-end-2 : goal.slice_bounds-fill_skips-end-2
slice_bounds-fill_skips-end-2 c = omega (arith, slots_put_long c.args.out.now c.hold.new.slots c.requires.out_len c.hold.ensures.held.long)

pub fill_skips-requires : goal.fill_skips-requires
fill_skips-requires c =
    let a = c.args in
    let held = c.hold.ensures.held.long in
    let long = slots_put_long a.out.now c.hold.new.slots c.requires.out_len held in
    let room = part_long (with_slots a.out.now c.hold.new.slots c.requires.out_len held) 79104 67584 (omega (arith, long)) in
    (omega (arith, c.requires.accepted.laid.limits.entries_most), (c.share.ensures.neighbours.long, room))

pub slice_bounds-copy_from_slice-end : goal.slice_bounds-copy_from_slice-end
slice_bounds-copy_from_slice-end c =
    omega (arith, skips_put_long c.args.out.now c.hold.new.slots c.requires.out_len c.hold.ensures.held.long c.fill_skips.new.skips c.fill_skips.ensures.long)

pub copy_from_slice-requires : goal.copy_from_slice-requires
copy_from_slice-requires c =
    let a = c.args in
    let held = c.hold.ensures.held.long in
    let skips = c.fill_skips.ensures.long in
    let long = skips_put_long a.out.now c.hold.new.slots c.requires.out_len held c.fill_skips.new.skips skips in
    part_long (with_skips a.out.now c.hold.new.slots c.requires.out_len held c.fill_skips.new.skips skips) 31232 2816 (omega (arith, long)) ∙ sym c.share.ensures.neighbours.long

pub shape_of-out : goal.shape_of-out
shape_of-out c =
    let a = c.args in
    let shared = ap length c.copy_from_slice.ensures.after ∙ c.share.ensures.neighbours.long in
    shared_put_long a.out.now c.hold.new.slots c.requires.out_len c.hold.ensures.held.long c.fill_skips.new.skips c.fill_skips.ensures.long c.copy_from_slice.new.self shared ∙ sym c.requires.out_len

pub returns : goal.returns
returns c =
    let a = c.args in
    let held = c.hold.ensures in
    let sharing = c.share.ensures in
    let skips = c.fill_skips.ensures in
    rw c.copy_from_slice.ensures.after
    (slots_filled a.out.now c.hold.new.slots c.requires.out_len held.held.long c.fill_skips.new.skips skips.long c.share.new.shared sharing.neighbours.long
    a.image.now a.h.lexicons a.h.entries held sharing skips)
