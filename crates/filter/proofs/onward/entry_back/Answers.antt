-- `filter::onward::entry_back` meets its contract: over the letters from d on, the set is what comes after the entry run backwards.
use Prim.Native.Nat.{ℕ, ◌+◌, ◌*◌, ◌-◌, ◌<◌, ◌≤◌}
use native.Mathlib.Omega.{arith}
use mathlib.Core.Path.{◌≡◌, refl, sym, ◌∙◌, subst}
use mathlib.Core.List.{List}
use lib.ListN.{length}
use Rattle.forms.specs.Slots.{slot_length, slot_form}
use Rattle.positions.proofs.Depths.{form_length_lem, form_letter}
use Rattle.filter.specs.Sets.{Means}
use Rattle.filter.specs.Unions.{SlotLeads}
use Rattle.filter.proofs.Unions.{backed_none, backed_more, backed_all, slot_means}
use Rattle.filter.proofs.onward.entry_back.Goals as goal
use Rattle.filter.proofs.onward.entry_back.Goals.{In-loop-d, Start}

-- the slot's bytes
module _ (s : Start) where
  abbrev form : List ℕ
  form = slot_form s.args.slots.now s.args.i

  short : slot_length s.args.slots.now s.args.i ≤ 12
  short = s.requires.formed.form_short s.args.i s.requires.i_lt_high.0

  fits : 16 * s.args.i + 1 + slot_length s.args.slots.now s.args.i ≤ length s.args.slots.now
  fits = omega (arith, s.requires.i_lt_high.1.inside, short)

  size : length form ≡ slot_length s.args.slots.now s.args.i
  size = form_length_lem s.args.slots.now (16 * s.args.i + 1) (slot_length s.args.slots.now s.args.i) fits

-- a turn: the letter before d
module _ (c : In-loop-d) where
  some : 0 < c.loop-d.d
  some = c.loop-d-test.true

  within : c.loop-d.d - 1 < slot_length c.args.slots.now c.args.i
  within = omega (arith, c.loop-d.invariant.place, size (goal.at.letter-a-requires c).Start, some)

pub after_slot-m-requires : goal.after_slot-m-requires
after_slot-m-requires c = record { accepted = c.requires.accepted; reached = (c.requires.reached, c.requires.i_lt_high.1) }

pub letters-d-requires : goal.letters-d-requires
letters-d-requires c = let slot = c.requires.i_lt_high.1 in (slot.few, slot.inside)

pub loop-d-init : goal.loop-d-init
loop-d-init c =
    let start = (goal.at.loop-d-init c).Start in
    let last = c.after_slot-m.result in
    backed_none c.args.masks.now c.args.flags.now (form start) last c.letters-d.result last (c.letters-d.ensures ∙ sym (size start)) refl

pub letter-a-requires : goal.letter-a-requires
letter-a-requires c = let slot = c.requires.i_lt_high.1 in ((slot.few, omega (arith, within c, short (goal.at.letter-a-requires c).Start)), slot.inside)

pub step_back-m-requires : goal.step_back-m-requires
step_back-m-requires c =
    let a = c.args in
    let small = c.requires.formed.letters_in a.i c.requires.i_lt_high.0 (c.loop-d.d - 1) (within (goal.at.step_back-m-requires c).In-loop-d) in
    record { filled = c.requires.filled; a_bound = subst (λ (x : ℕ). x < 128) (sym c.letter-a.ensures) small }

pub loop-d-preserved : goal.loop-d-preserved
loop-d-preserved c =
    let a = c.args in
    let last = c.after_slot-m.result in
    let start = (goal.at.loop-d-preserved c).Start in
    let turn = (goal.at.loop-d-preserved c).In-loop-d in
    let letter = form_letter a.slots.now (16 * a.i + 1) (slot_length a.slots.now a.i) (fits start) (c.loop-d.d - 1) (within turn) in
    backed_more a.masks.now a.flags.now (form start) last c.loop-d.d c.loop-d.m c.letter-a.result c.step_back-m.result (some turn) c.loop-d.invariant
    (c.letter-a.ensures ∙ sym letter) c.step_back-m.ensures

pub returns : goal.returns
returns c =
    let a = c.args in
    let last = c.after_slot-m.result in
    let all = backed_all a.masks.now a.flags.now (form (goal.at.returns c).Start) last c.loop-d.d c.loop-d.m (omega (arith, c.loop-d-test.false)) c.loop-d.invariant in
    subst (λ (m : ℕ). Means m (SlotLeads a.image.now a.reach.now a.slots.now a.masks.now a.flags.now a.i)) (sym all)
    (slot_means a.image.now a.reach.now a.slots.now a.masks.now a.flags.now a.i last c.after_slot-m.ensures)
