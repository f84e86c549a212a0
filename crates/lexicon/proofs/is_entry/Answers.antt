-- `is_entry` meets its contract: the length, the bytes within its bounds, the marks and the ways on.
use native.Mathlib.Omega.{arith}
use native.Mathlib.Nat.{add-zero}
use mathlib.Core.Bool.{Bool, true, false, ◌&&◌, ◌||◌, not}
use mathlib.Core.List.{List}
use mathlib.Core.Path.{◌≡◌, refl, sym, ap, ◌∙◌}
use Prim.Native.Nat.{ℕ, ◌+◌, ◌*◌, ◌<◌, ◌≤◌}
use lib.ListN.{length, take, drop}
use lib.Seq.{get_or-drop}
use Rattle.model.specs.Lists.{below, every, within, is_zero, byte}
use Rattle.model.specs.Lexicon.{right_ways, is_entry_of}
use Rattle.model.proofs.Booleans.{left_true, left_false}
use Rattle.letters.specs.Marks.{is_marked}
use Rattle.lexicon.specs.Bounds.{in_row}
use Rattle.lexicon.proofs.Laws.{entry_long, entry_there}
use Rattle.lexicon.proofs.Rows.{bounded_is, looked_is}
use Rattle.lexicon.proofs.WayLaws.{width_by}
use Rattle.lexicon.proofs.is_entry.Goals as goal
use Rattle.lexicon.proofs.is_entry.Goals.{Joined-in_bounds, then-in_bounds, else-in_bounds}

-- the marks after the rest of the form
order : (w k z c : Bool) → (w && k && z && c) ≡ (w && z && k && c)
order false k z c = refl
order true true true c = refl
order true true false c = refl
order true false true c = refl
order true false false c = refl

-- where the length was read, and the bytes and the marks tested
module _ (b : Joined-in_bounds) where
  abbrev image : List ℕ
  image = b.args.image.now

  abbrev at : ℕ
  at = b.args.at

  abbrev n : ℕ
  n = b.byte_at-form_length.result

  abbrev may : ℕ → Bool
  may = is_marked b.args.marked.now

  abbrev form : List ℕ
  form = drop (at + 1) (take (at + (1 + n)) image)

  abbrev bounded : Bool
  bounded = every (in_row b.args.low.now b.args.high.now (16 * n) image (at + 1)) (below 16)

  abbrev marked : Bool
  marked = not b.args.look || every may form

  abbrev goes : Bool
  goes = right_ways (drop at image) b.args.h.form b.args.h.lexicons

  room : at + 16 < length image
  room = omega (arith, (width_by b.args.h.form).0, b.requires.form_in_bounds.0)

  entry_is : n ≤ 12 → is_entry_of (drop at image) b.args.h.form may b.args.h.lexicons ≡ (bounded && marked && goes)
  entry_is short =
      let letters = b.args.h.letters in
      let zeros = every is_zero (drop (at + (1 + n)) (take (at + 13) image)) in
      let bytes : (i : ℕ) → byte image i < 256 = λ i. omega (arith, b.type_inv.image i) in
      entry_there b.args.h.form may b.args.h.lexicons image at n b.byte_at-form_length.ensures.0 short
      ∙ ap (λ (x : Bool). x && zeros && goes) (looked_is b.args.marked.now letters b.args.look b.requires.marked_letters form)
      ∙ order (every (within 2 letters) form) marked zeros goes
      ∙ ap (λ (x : Bool). x && marked && goes) (sym (bounded_is letters b.args.low.now b.args.high.now image b.requires.bounds b.requires.bounds_2 bytes n at short room))

  two : b.if-in_bounds.value ≡ (bounded && marked)
  two =
      elim b.if-in_bounds.branch [
        | then-in_bounds w ↦ w.value-is ∙ w.is_form.ensures ∙ sym (left_true bounded marked (sym b.in_bounds.ensures ∙ w.if-in_bounds.true))
        | else-in_bounds w ↦ w.value-is ∙ w.if-in_bounds.false ∙ sym (left_false bounded marked (sym b.in_bounds.ensures ∙ w.if-in_bounds.false))
      ]

  decided : (x : Bool) → b.if-in_bounds.value ≡ x → (x && goes) ≡ is_entry_of (drop at image) b.args.h.form may b.args.h.lexicons
  decided x e = ap (λ (y : Bool). y && goes) (sym e ∙ two) ∙ sym (entry_is b.if-form_length-gt12.false)

pub returns-then-form_length-gt12 : goal.returns-then-form_length-gt12
returns-then-form_length-gt12 c =
    let a = c.args in
    sym (entry_long a.h.form (is_marked a.marked.now) a.h.lexicons (drop a.at a.image.now)
    (omega (arith, c.byte_at-form_length.ensures.0, get_or-drop a.at a.image.now 0 0 ∙ ap (byte a.image.now) (add-zero a.at))))

pub returns-then-is_form : goal.returns-then-is_form
returns-then-is_form c = c.are_right.ensures ∙ decided (goal.at.returns-then-is_form c).Joined-in_bounds true c.if-is_form.true

pub returns-else-is_form : goal.returns-else-is_form
returns-else-is_form c = c.if-is_form.false ∙ decided (goal.at.returns-else-is_form c).Joined-in_bounds false c.if-is_form.false
