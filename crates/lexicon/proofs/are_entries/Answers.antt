-- `are_entries` meets its contract: what is left of the entries decides.
use native.Mathlib.Omega.{arith}
use borrow.Author.Rules.{rules}
use mathlib.Core.Bool.{Bool, true, false}
use mathlib.Core.List.{List}
use mathlib.Core.Path.{◌≡◌, sym, ap, ap₂, ◌∙◌}
use Prim.Native.Nat.{ℕ, ◌+◌, ◌*◌, ◌-◌, ◌%◌, ◌<◌, ◌≤◌}
use lib.ListN.{drop}
use Rattle.model.specs.Lists.{below, every}
use Rattle.model.specs.Blocks.{Header, kinds, in_all, record_width, per_block, record_start}
use Rattle.model.specs.Lexicon.{is_entry_of}
use Rattle.image.specs.Header.{header_of}
use Rattle.letters.specs.Marks.{is_marked}
use Rattle.model.proofs.Lists.{every_more, every_fails}
use Rattle.image.proofs.Records.{total_most, record_slot, record_end, next_within, next_block, record_part}
use Rattle.lexicon.proofs.Laws.{width_is, entry_cut, entry_room}
use Rattle.lexicon.proofs.are_entries.Invariants.{is_right}
use Rattle.lexicon.proofs.are_entries.Goals as goal
use Rattle.lexicon.proofs.are_entries.Goals.{After-is_entry, then-room-eq0, else-room-eq0}

-- the entry looked at in a turn
module _ (c : After-is_entry) where
  abbrev h : Header
  h = header_of c.args.h

  abbrev right : ℕ → Bool
  right = is_right c.args.image.now c.args.marked.now h

  abbrev number : ℕ
  number = c.entries.counter

  place : c.entries.at ≡ record_start h 6 number
  place = c.entries.invariant.1

  looked : right number ≡ c.is_entry.result
  looked =
      let image = c.args.image.now in
      let may = is_marked c.args.marked.now in
      ap (λ (l : List ℕ). is_entry_of l h.form may h.lexicons) (record_part c.requires.laid 6 number)
      ∙ entry_cut h.form may h.lexicons (drop (record_start h 6 number) image) (record_width h 6) (omega (arith, width_is h))
      ∙ ap (λ (n : ℕ). is_entry_of (drop n image) h.form may h.lexicons) (sym place)
      ∙ sym c.is_entry.ensures

  fails : c.is_entry.result ≡ false → false ≡ every right (below h.entries)
  fails e = sym (every_fails right h.entries number c.entries-test.true (looked ∙ e))

  -- where it stands
  counted : number < in_all h 6
  unfolding kinds
  counted = omega arith

  some_room : 1 ≤ c.entries.room
  some_room = omega (arith, record_slot h c.requires.laid.limits 6 number counted)

  small : c.entries.at + c.width-wide.result ≤ 65536
  small = omega (arith, record_end h c.requires.laid.limits 6 number counted, total_most h c.requires.laid.limits, c.width-wide.ensures)

  -- and the next one, in its block or in the next block
  abbrev Next : ℕ → ℕ → Type 0
  Next room at = (room + (number + 1) % per_block h 6 ≡ per_block h 6) × (at ≡ record_start h 6 (number + 1))

  within : (c.entries.room - 1 ≡ 0 → ⊥) → Next (c.entries.room - 1) (c.entries.at + c.width-wide.result)
  within more =
      let n = next_within h 6 number (omega (arith, some_room)) in
      (omega (arith, some_room), omega (arith, c.width-wide.ensures))

  over : c.entries.room - 1 ≡ 0 → Next c.per_block-most.result (c.entries.at + c.width-wide.result + (512 - c.width-wide.result * c.per_block-most.result))
  over e =
      let n = next_block h 6 number (omega (arith, some_room)) in
      let full = ap₂ (λ (m n : ℕ). m * n) c.width-wide.ensures c.per_block-most.ensures in
      (omega (arith, c.per_block-most.ensures), omega (arith, c.width-wide.ensures, full))

  goes_on : c.is_entry.result ≡ true → every right (below (number + 1)) ≡ true
  goes_on e = every_more right number c.entries.invariant.2 (looked ∙ e)

pub is_entry-requires-clause-form_in_bounds : goal.is_entry-requires-clause-form_in_bounds
is_entry-requires-clause-form_in_bounds c =
    (omega (arith, entry_room c.args.image.now (header_of c.args.h) c.requires.laid c.entries.counter c.entries-test.true, c.entries.invariant.1), c.requires.laid.limits.lexicons_most)

pub returns-then-not-is_entry : goal.returns-then-not-is_entry
returns-then-not-is_entry c = fails (goal.at.returns-then-not-is_entry c).After-is_entry (search rules)

pub overflow_add-at : goal.overflow_add-at
overflow_add-at c = omega (arith, small (goal.at.overflow_add-at c).After-is_entry)

pub overflow_sub-room : goal.overflow_sub-room
overflow_sub-room c = some_room (goal.at.overflow_sub-room c).After-is_entry

pub overflow_add-at-then-room-eq0 : goal.overflow_add-at-then-room-eq0
overflow_add-at-then-room-eq0 c = omega (arith, small (goal.at.overflow_add-at-then-room-eq0 c).After-is_entry)

pub entries-preserved : goal.entries-preserved
entries-preserved c =
    let a = (goal.at.entries-preserved c).After-is_entry in
    let right = goes_on a (search rules) in
    elim c.if-room-eq0.branch [
      | then-room-eq0 w ↦ let t = over a w.if-room-eq0.true in (omega (arith, w.room-is, t.0), w.at-is ∙ t.1, right)
      | else-room-eq0 w ↦ let t = within a w.if-room-eq0.false in (omega (arith, w.room-is, t.0), w.at-is ∙ t.1, right)
    ]
