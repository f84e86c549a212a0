-- Entries by their marked letters: test 8 where the letters from 2 to L are marked, tests 8 and 14 where the lexical sides of the pairs are.
use Prim.Native.Nat.{ℕ, ◌+◌, ◌-◌, ◌<◌, ◌≤◌}
use native.Mathlib.Omega.{arith}
use mathlib.Core.Bool.{Bool, true, false, ◌&&◌, not}
use mathlib.Core.Path.{◌≡◌, refl, sym, ap, ap₂, ◌∙◌, subst}
use mathlib.Core.List.{List}
use lib.ListN.{length, get_or, take, drop, length-drop}
use lib.Seq.{get_or-drop}
use lib.Dec.{T, leb, eqb}
use Rattle.model.specs.Lists.{below, every, within, is_zero}
use Rattle.model.specs.Blocks.{Header}
use Rattle.model.specs.Lexicon.{first_entry, entry, form_length, form_of, right_ways, is_entry_of, is_entry}
use Rattle.model.specs.Refusals.{is_lexical, right_pairs, right_entries, right_forms}
use borrow.Author.Tests.{not-false}
use Rattle.model.proofs.Booleans.{and_out, and_assoc, of_true, within_out}
use Rattle.model.proofs.Lists.{length_below, get_d_below, every_and, every_same}
use Rattle.model.proofs.Rest.{every_get_d}
use Rattle.image.specs.Laid.{Laid}
use Rattle.letters.specs.Marks.{marks_of, is_marked, is_form_letter}
use Rattle.letters.proofs.Laws.{laid_here}
use Rattle.letters.proofs.MarkLaws.{letter_marked, lexical_marked}
use Rattle.lexicon.specs.Entries.{MarkedLetters, is_lexicon_of}
use Rattle.lexicon.proofs.Laws.{right_is}

module _ (bytes : List ℕ) (form lexicons : ℕ) where
  entry_same : (f g : ℕ → Bool) → ((a : ℕ) → f a ≡ g a) → is_entry_of bytes form f lexicons ≡ is_entry_of bytes form g lexicons
  unfolding is_entry_of
  entry_same f g e =
      ap (λ (b : Bool). leb (form_length bytes) 12 && b && every is_zero (drop (1 + form_length bytes) (take 13 bytes)) && right_ways bytes form lexicons)
      (every_same f g (form_of bytes) (λ a m. e a))

  -- the letters by two tests
  entry_both : (f g : ℕ → Bool) → is_entry_of bytes form (λ a. f a && g a) lexicons ≡ (is_entry_of bytes form f lexicons && every g (form_of bytes))
  unfolding is_entry_of
  entry_both f g =
      let short = leb (form_length bytes) 12 in
      let zeros = every is_zero (drop (1 + form_length bytes) (take 13 bytes)) in
      let goes = right_ways bytes form lexicons in
      ap (λ (b : Bool). short && b && zeros && goes) (every_and f g (form_of bytes)) ∙ last short (every f (form_of bytes)) (every g (form_of bytes)) zeros goes
    where
      last : (a b c d e : Bool) → (a && (b && c) && d && e) ≡ (a && b && d && e && c)
      last false b c d e = refl
      last true false c d e = refl
      last true true true true true = refl
      last true true true true false = refl
      last true true true false e = refl
      last true true false true true = refl
      last true true false true false = refl
      last true true false false e = refl

-- the letters from 2 to L, marked
pub letters_marked : (letters : ℕ) → letters ≤ 120 → MarkedLetters (marks_of (within 2 letters)) letters false
letters_marked letters most = record { is_letter = λ a. subst T (letter_marked letters most a); each = λ e a. subst T (sym (letter_marked letters most a)) }

-- an image that passed tests 1 and 3
module _ (image : List ℕ) (h : Header) (laid : Laid image h) where
  abbrev counts : Bool
  counts = eqb (first_entry image h.lexicons) h.entries

  abbrev each : Bool
  each = every (λ e. is_entry (entry image e) h.form h.letters h.lexicons) (below h.entries)

  pub letters_lexicon : is_lexicon_of (is_marked (marks_of (within 2 h.letters))) image h ≡ right_entries image
  unfolding is_entry
  letters_lexicon =
      ap (λ (b : Bool). counts && b)
      (every_same (λ e. is_entry_of (entry image e) h.form (is_marked (marks_of (within 2 h.letters))) h.lexicons) (λ e. is_entry (entry image e) h.form h.letters h.lexicons)
      (below h.entries)
      (λ e m. entry_same (entry image e) h.form h.lexicons (is_marked (marks_of (within 2 h.letters))) (within 2 h.letters) (letter_marked h.letters laid.limits.letters_most)))
      ∙ sym (right_is image h laid)

  -- test 14 by the header's count
  forms_is : right_forms image ≡ every (λ e. every (is_lexical image) (form_of (entry image e))) (below h.entries)
  unfolding right_forms
  forms_is = ap (λ (g : Header). every (λ e. every (is_lexical image) (form_of (entry image e))) (below g.entries)) (sym laid.header_is)

  lexical_is : T (right_pairs image) → (a : ℕ) → is_marked (marks_of (is_form_letter image)) a ≡ (within 2 h.letters a && is_lexical image a)
  lexical_is right a = lexical_marked image right (laid_here laid).limits.letters_most a ∙ ap (λ (g : Header). within 2 g.letters a && is_lexical image a) (sym laid.header_is)

  -- the lexical sides of the pairs, marked; r says whether all letters are among them
  pub sides_marked : T (right_pairs image) → (r : Bool) → r ≡ every (is_marked (marks_of (is_form_letter image))) (drop 2 (below (h.letters + 1))) → MarkedLetters (marks_of (is_form_letter image)) h.letters (not r)
  sides_marked right r e =
      record { is_letter = λ a t. (and_out (within 2 h.letters a) (is_lexical image a) (subst T (lexical_is right a) t)).0; each = λ q a t. each (not-false r q) a (within_out 2 h.letters a t) }
    where
      all : List ℕ
      all = below (h.letters + 1)

      each : r ≡ true → (a : ℕ) → (2 ≤ a) × (a ≤ h.letters) → T (is_marked (marks_of (is_form_letter image)) a)
      each q a l =
          let more : a - 2 < length (drop 2 all) = omega (arith, l.0, l.1, length-drop 2 all, length_below (h.letters + 1)) in
          let same : 2 + (a - 2) ≡ a = omega (arith, l.0) in
          let own : get_or (drop 2 all) (a - 2) 0 ≡ a = get_or-drop 2 all (a - 2) 0 ∙ ap (λ (k : ℕ). get_or all k 0) same ∙ get_d_below (h.letters + 1) a (omega (arith, l.1)) in
          subst (λ (b : ℕ). T (is_marked (marks_of (is_form_letter image)) b)) own (every_get_d (is_marked (marks_of (is_form_letter image))) (drop 2 all) (a - 2) 0 more (of_true (every (is_marked (marks_of (is_form_letter image))) (drop 2 all)) (sym e ∙ q)))

  pub spelled_lexicon : T (right_pairs image) → is_lexicon_of (is_marked (marks_of (is_form_letter image))) image h ≡ (right_entries image && right_forms image)
  unfolding is_entry
  spelled_lexicon right =
      ap (λ (b : Bool). counts && b)
      (every_same (λ e. is_entry_of (entry image e) h.form (is_marked (marks_of (is_form_letter image))) h.lexicons)
      (λ e. is_entry (entry image e) h.form h.letters h.lexicons && every (is_lexical image) (form_of (entry image e))) (below h.entries) (λ e m. looked e)
      ∙ every_and (λ e. is_entry (entry image e) h.form h.letters h.lexicons) (λ e. every (is_lexical image) (form_of (entry image e))) (below h.entries))
      ∙ and_assoc counts each (every (λ e. every (is_lexical image) (form_of (entry image e))) (below h.entries))
      ∙ ap₂ (λ (a b : Bool). a && b) (sym (right_is image h laid)) (sym forms_is)
    where
      looked : (e : ℕ) → is_entry_of (entry image e) h.form (is_marked (marks_of (is_form_letter image))) h.lexicons
          ≡ (is_entry (entry image e) h.form h.letters h.lexicons && every (is_lexical image) (form_of (entry image e)))
      looked e =
          entry_same (entry image e) h.form h.lexicons (is_marked (marks_of (is_form_letter image))) (λ a. within 2 h.letters a && is_lexical image a) (lexical_is right)
          ∙ entry_both (entry image e) h.form h.lexicons (within 2 h.letters) (is_lexical image)
