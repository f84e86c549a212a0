-- Tables of marks: no mark, one more, what is marked, and the letters that the lexical sides of the pairs mark.
use Prim.Native.Nat.{ℕ, ◌+◌, ◌<◌, ◌≤◌}
use native.Mathlib.Omega.{arith}
use native.Mathlib.Numerals.{add-one}
use native.Mathlib.Decide.{ℕ_discrete, dec_lt}
use mathlib.Core.Bool.{Bool, true, false, ◌&&◌, ◌||◌, not}
use mathlib.Core.Path.{◌≡◌, refl, sym, ap, ◌∙◌, subst}
use mathlib.Core.Logic.{inl, inr}
use mathlib.Core.List.{List}
use lib.ListN.{length, take, set, replicate, length-set, length-replicate, get_or-replicate, get_or-eq_default}
use lib.Seq.{ext_get_or, get_or-set_same, get_or-set_other, take-suc, take_all}
use lib.Dec.{T, leb, ltb, eqb, eqb→eq}
use borrow.Author.Tests.{lt-ltb, le-ltb, le-leb, lt-leb, eq-eqb, ne_eqb}
use Rattle.model.specs.Lists.{below, every, any, distinct, within, is_zero, byte}
use Rattle.model.specs.Blocks.{header}
use Rattle.model.specs.RuleTables.{Pair, pairs, boundary_pair, is_pair, same_pair}
use Rattle.model.specs.Refusals.{is_lexical, right_pairs}
use Rattle.model.proofs.Booleans.{and_out, left_false, right_false, true_of, of_true, within_in, within_above}
use Rattle.model.proofs.Lists.{every_at, any_from, any_more, map_same, length_map_below, get_d_map_below}
use Rattle.letters.specs.Marks.{mark, marks_of, is_marked, is_form_letter}
use Rattle.letters.proofs.Laws.{IsSide, pair_at, length_pairs, is_pair_out}

module _ (f : ℕ → Bool) where
  length_marks : length (marks_of f) ≡ 256
  unfolding marks_of
  length_marks = length_map_below (λ a. mark (f a)) 256

  marks_at_lem : (a : ℕ) → a < 256 → byte (marks_of f) a ≡ mark (f a)
  unfolding marks_of
  marks_at_lem a h = get_d_map_below (λ a. mark (f a)) 256 a 0 h

  -- nothing is marked
  marks_none : ((a : ℕ) → f a ≡ false) → replicate 256 0 ≡ marks_of f
  marks_none none =
      ext_get_or 0 (replicate 256 0) (marks_of f) (length-replicate {A = ℕ} 256 0 ∙ sym length_marks)
      (λ i h. let l : i < 256 = omega (arith, length-replicate {A = ℕ} 256 0) in get_or-replicate 256 i 0 0 l ∙ sym (marks_at_lem i l ∙ ap mark (none i)))

  -- what is marked, where nothing above 255 is asked for
  marked_is : ((a : ℕ) → 256 ≤ a → f a ≡ false) → (a : ℕ) → is_marked (marks_of f) a ≡ f a
  marked_is above a = go (dec_lt a 256)
    where
      of : (b : Bool) → eqb (mark b) 1 ≡ b
      of true = refl
      of false = refl

      go : Dec (a < 256) → is_marked (marks_of f) a ≡ f a
      go (yes h) = ap (λ (n : ℕ). eqb n 1) (marks_at_lem a h) ∙ of (f a)
      go (no h) = ap (λ (n : ℕ). eqb n 1) (get_or-eq_default (marks_of f) 0 {n = a} (omega (arith, length_marks))) ∙ sym (above a (omega arith))

-- one place written
marks_set : (f g : ℕ → Bool) (i v : ℕ) → i < 256 → v ≡ mark (g i) → ((a : ℕ) → (a ≡ i → ⊥) → f a ≡ g a) → set (marks_of f) i v ≡ marks_of g
marks_set f g i v h e same =
    ext_get_or 0 (set (marks_of f) i v) (marks_of g) (length-set (marks_of f) i v ∙ length_marks f ∙ sym (length_marks g))
    (λ a l. go a (omega (arith, length-set (marks_of f) i v, length_marks f)) (ℕ_discrete a i))
  where
    go : (a : ℕ) → a < 256 → Dec (a ≡ i) → byte (set (marks_of f) i v) a ≡ byte (marks_of g) a
    go a l (yes q) = ap (byte (set (marks_of f) i v)) q ∙ get_or-set_same (marks_of f) i v 0 (omega (arith, length_marks f)) ∙ e ∙ sym (marks_at_lem g i h) ∙ ap (byte (marks_of g)) (sym q)
    go a l (no q) = get_or-set_other (marks_of f) i a v 0 q ∙ marks_at_lem f a l ∙ ap mark (same a q) ∙ sym (marks_at_lem g a l)

marks_same : (f g : ℕ → Bool) → ((a : ℕ) → f a ≡ g a) → marks_of f ≡ marks_of g
unfolding marks_of
marks_same f g e = map_same (λ a. mark (f a)) (λ a. mark (g a)) (below 256) (λ a m. ap mark (e a))

-- the letters from 2 up to a, a not among them
abbrev pub letters_below : ℕ → ℕ → Bool
letters_below a x = leb 2 x && ltb x a

pub marks_start : replicate 256 0 ≡ marks_of (letters_below 2)
marks_start = marks_none (letters_below 2) (λ x. go x (dec_lt x 2))
  where
    go : (x : ℕ) → Dec (x < 2) → letters_below 2 x ≡ false
    go x (yes h) = left_false (leb 2 x) (ltb x 2) (lt-leb 2 x h)
    go x (no h) = right_false (leb 2 x) (ltb x 2) (le-ltb x 2 (omega arith))

pub marks_more : (a : ℕ) → 2 ≤ a → a < 256 → set (marks_of (letters_below a)) a 1 ≡ marks_of (letters_below (a + 1))
marks_more a h k = marks_set (letters_below a) (letters_below (a + 1)) a 1 k (sym (ap mark own)) (λ x n. ap (λ (b : Bool). leb 2 x && b) (go x n (dec_lt x a)))
  where
    own : letters_below (a + 1) a ≡ true
    own = rw (le-leb 2 a h, lt-ltb a (a + 1) (omega arith)) refl

    go : (x : ℕ) → (x ≡ a → ⊥) → Dec (x < a) → ltb x a ≡ ltb x (a + 1)
    go x n (yes l) = lt-ltb x a l ∙ sym (lt-ltb x (a + 1) (omega arith))
    go x n (no l) = le-ltb x a (omega arith) ∙ sym (le-ltb x (a + 1) (over (ℕ_discrete x a)))
      where
        over : Dec (x ≡ a) → a + 1 ≤ x
        over (yes e) = absurd (n e)
        over (no e) = omega arith

pub marks_letters : (letters : ℕ) → marks_of (letters_below (letters + 1)) ≡ marks_of (within 2 letters)
marks_letters letters = marks_same (letters_below (letters + 1)) (within 2 letters) (λ x. ap (λ (b : Bool). leb 2 x && b) (go x (dec_lt x (letters + 1))))
  where
    go : (x : ℕ) → Dec (x < letters + 1) → ltb x (letters + 1) ≡ leb x letters
    go x (yes h) = lt-ltb x (letters + 1) h ∙ sym (le-leb x letters (omega arith))
    go x (no h) = le-ltb x (letters + 1) (omega arith) ∙ sym (lt-leb x letters (omega arith))

pub letter_marked : (letters : ℕ) → letters ≤ 120 → (a : ℕ) → is_marked (marks_of (within 2 letters)) a ≡ within 2 letters a
letter_marked letters h = marked_is (within 2 letters) (λ a k. within_above 2 letters a (omega arith))

-- the lexical sides of the first p pairs
module _ (image : List ℕ) where
  abbrev pub lexical_before : ℕ → ℕ → Bool
  lexical_before p a = any (λ q. eqb q.lexical a) (take p (pairs image))

  before_more : (p a : ℕ) → p < (header image).pairs → lexical_before (p + 1) a ≡ (lexical_before p a || eqb (pair_at image p).lexical a)
  before_more p a h =
      ap (λ (l : List Pair). any (λ q. eqb q.lexical a) l) (ap (λ (n : ℕ). take n (pairs image)) (add-one p) ∙ take-suc (pairs image) p boundary_pair (omega (arith, length_pairs image)))
      ∙ any_more (λ q. eqb q.lexical a) (take p (pairs image)) (pair_at image p)

  pub sides_start : replicate 256 0 ≡ marks_of (lexical_before 0)
  sides_start = marks_none (lexical_before 0) (λ a. refl)

  pub sides_more : (p x : ℕ) → p < (header image).pairs → x ≡ (pair_at image p).lexical → x < 256 → set (marks_of (lexical_before p)) x 1 ≡ marks_of (lexical_before (p + 1))
  sides_more p x h e k =
      marks_set (lexical_before p) (lexical_before (p + 1)) x 1 k
      (sym (ap mark (before_more p x h ∙ or_true (lexical_before p x) (eqb (pair_at image p).lexical x) (eq-eqb (pair_at image p).lexical x (sym e)))))
      (λ a n. sym (before_more p a h ∙ or_none (lexical_before p a) (eqb (pair_at image p).lexical a) (ne_eqb (pair_at image p).lexical a (λ q. n (sym q ∙ sym e)))))
    where
      or_true : (b c : Bool) → c ≡ true → (b || c) ≡ true
      or_true true c q = refl
      or_true false c q = q

      or_none : (b c : Bool) → c ≡ false → (b || c) ≡ b
      or_none true c q = refl
      or_none false c q = q

  -- after all of them, the null's mark taken away
  pub sides_all : set (marks_of (lexical_before (header image).pairs)) 0 0 ≡ marks_of (is_form_letter image)
  unfolding is_lexical
  sides_all =
      marks_set (lexical_before (header image).pairs) (is_form_letter image) 0 0 (omega arith) refl
      (λ a n. ap (any (λ q. eqb q.lexical a)) (take_all (header image).pairs (pairs image) (omega (arith, length_pairs image))) ∙ sym (not_zero a n))
    where
      not_zero : (a : ℕ) → (a ≡ 0 → ⊥) → is_form_letter image a ≡ is_lexical image a
      not_zero a n = ap (λ (b : Bool). not b && is_lexical image a) (ne_eqb a 0 n)

  right_lexical : T (right_pairs image) → (a : ℕ) → T (is_lexical image a) → IsSide (header image).letters a
  unfolding is_lexical right_pairs
  right_lexical right a t =
      let letters = (header image).letters in
      let u = any_from (λ q. eqb q.lexical a) (pairs image) t in
      let each = (and_out (every (is_pair letters) (pairs image)) (distinct same_pair (pairs image)) right).0 in
      subst (IsSide letters) (eqb→eq u.0.lexical a u.2) (is_pair_out letters u.0 (every_at (is_pair letters) (pairs image) u.1 each)).lexical_is

  -- of pairs that passed test 5, a lexical side that is no null is a letter
  side_letter : T (right_pairs image) → (a : ℕ) → is_form_letter image a ≡ (within 2 (header image).letters a && is_lexical image a)
  side_letter right a = go (is_lexical image a) refl
    where
      go : (b : Bool) → is_lexical image a ≡ b → (not (is_zero a) && b) ≡ (within 2 (header image).letters a && b)
      go false e = right_false (not (is_zero a)) false refl ∙ sym (right_false (within 2 (header image).letters a) false refl)
      go true e = ap (λ (b : Bool). b && true) (side (right_lexical right a (of_true (is_lexical image a) e)))
        where
          side : IsSide (header image).letters a → not (is_zero a) ≡ within 2 (header image).letters a
          side (inl z) = ap (λ (n : ℕ). not (is_zero n)) z ∙ sym (ap (within 2 (header image).letters) z)
          side (inr l) = ap not (ne_eqb a 0 (λ z. omega (arith, l.0))) ∙ sym (true_of (within 2 (header image).letters a) (within_in 2 (header image).letters a l.0 l.1))

  pub lexical_marked : T (right_pairs image) → (header image).letters ≤ 120 → (a : ℕ) → is_marked (marks_of (is_form_letter image)) a ≡ (within 2 (header image).letters a && is_lexical image a)
  lexical_marked right most a = marked_is (is_form_letter image) above a ∙ side_letter right a
    where
      above : (a : ℕ) → 256 ≤ a → is_form_letter image a ≡ false
      above a h = side_letter right a ∙ left_false (within 2 (header image).letters a) (is_lexical image a) (within_above 2 (header image).letters a (omega arith))
