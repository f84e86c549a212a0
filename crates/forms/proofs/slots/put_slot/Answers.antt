-- `forms::slots::put_slot` meets its contract: thirteen bytes of the entry, its way on over the next, and its number after them are the slot, and no other byte moves.
use Prim.Native.Nat.{ℕ, ◌+◌, ◌-◌, ◌*◌, ◌<◌}
use lib.ListN.{length, set, length-set}
use native.Mathlib.Omega.{arith}
use mathlib.Core.Path.{◌≡◌, sym, subst}
use mathlib.Core.List.{List}
use mathlib.Core.Logic.{⊎_elim}
use borrow.Rule.Slice.PartMut.{put_mid}
use Rattle.image.specs.Header.{header_of}
use Rattle.lexicon.proofs.Laws.{entry_inside}
use Rattle.forms.proofs.SlotLaws.{part_copied, slot_put}
use Rattle.forms.specs.Filling.{Copied, SlotPut}
use Rattle.forms.proofs.slots.put_slot.Goals as goal
use Rattle.forms.proofs.slots.put_slot.Goals.{After-way_of-way}

pub slice_bounds-copy_from_slice-end-2 : goal.slice_bounds-copy_from_slice-end-2
slice_bounds-copy_from_slice-end-2 c =
    omega (arith, entry_inside c.args.image.now (header_of c.args.h) c.requires.laid c.args.e 13 c.requires.e_lt_entries.0 (omega arith), c.entry_start-at.ensures.0)

module _ (c : After-way_of-way) where
  -- the slots with the entry's bytes, and with its way on
  abbrev copied : List ℕ
  copied = put_mid (16 * c.args.i) (16 * c.args.i + 13 - 16 * c.args.i) c.args.slots.now c.copy_from_slice.new.self

  abbrev mid : List ℕ
  mid = set copied (16 * c.args.i + 13) c.way_of-way.result

  copied_is : Copied c.args.image.now c.args.slots.now copied c.entry_start-at.result (16 * c.args.i) 13
  copied_is =
      let at = c.entry_start-at.result in
      part_copied c.args.image.now c.args.slots.now c.copy_from_slice.new.self at (16 * c.args.i) 13 (16 * c.args.i + 13 - 16 * c.args.i) (at + 13 - at) (omega arith)
      (omega arith) c.copy_from_slice.ensures.after
      (omega (arith, entry_inside c.args.image.now (header_of c.args.h) c.requires.laid c.args.e 13 c.requires.e_lt_entries.0 (omega arith), c.entry_start-at.ensures.0))
      (omega (arith, c.requires.e_lt_entries))

  mid_long : length mid ≡ length c.args.slots.now
  mid_long = omega (arith, length-set copied (16 * c.args.i + 13) c.way_of-way.result, copied_is.long)

-- a way is a byte
byte_wide : (c : After-way_of-way) → c.way_of-way.result < 256
byte_wide c = ⊎_elim (λ l. omega arith) (λ r. ⊎_elim (λ e. omega arith) (λ e. omega arith) r) c.way_of-way.ensures.in_bound

pub overflow_cast-slots : goal.overflow_cast-slots
overflow_cast-slots c = omega (arith, byte_wide c)

pub put_number-requires : goal.put_number-requires
put_number-requires c = omega (arith, mid_long (goal.at.put_number-requires c).After-way_of-way, c.requires.e_lt_entries)

pub returns : goal.returns
returns c =
    let a = c.args in
    let place = (goal.at.returns c).After-way_of-way in
    let few : a.e < 65536 = omega (arith, c.requires.laid.limits.entries_most, c.requires.e_lt_entries.0) in
    let here =
    slot_put a.image.now (header_of a.h) c.requires.laid a.slots.now (copied place) c.entry_start-at.result a.i a.e c.way_of-way.result c.entry_start-at.ensures.0 few
    (omega (arith, c.requires.e_lt_entries.1)) (copied_is place) c.way_of-way.ensures in
    subst (λ (x : List ℕ). SlotPut a.image.now a.slots.now x a.i a.e) (sym c.put_number.ensures) here
