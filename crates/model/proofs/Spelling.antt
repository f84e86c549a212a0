-- Laws of spelling: which letter a code point has, that a code point of the alphabet is never folded, that another is spelled as what it is folded to, and that
-- what is spelled passes tests 9 and 10.
use Prim.Native.Nat.{ℕ, zero, suc, ◌+◌, ◌%◌, ◌<◌, ◌≤◌}
use native.Mathlib.Omega.{arith}
use mathlib.Core.Bool.{Bool, true, false, ◌&&◌, not, cond}
use mathlib.Core.Path.{◌≡◌, refl, sym, ap, ◌∙◌, subst}
use mathlib.Core.Logic.{◌↔◌}
use mathlib.Core.List.{List, [], ◌∷◌, map, Memᴰ}
use lib.ListN.{length, get_or, length-map}
use lib.Dec.{T, leb, eqb, leb→le}
use borrow.Author.Tests.{eqb-true, eqb-false, eq-eqb, ne_eqb}
use Rattle.folding.specs.Folding.{fold}
use Rattle.folding.proofs.Folding.{fold_twice}
use Rattle.model.specs.Lists.{every, any, distinct, within, is_zero, number, numbers}
use Rattle.model.specs.Blocks.{header, record_at}
use Rattle.model.specs.RuleTables.{code_points, is_code_point}
use Rattle.model.specs.Readings.{word_length}
use Rattle.model.specs.Spelling.{letter_from, letter_of, letter_spelled, word_spelled}
use Rattle.model.specs.Refusals.{accepted, first_failing, right_letters, word_tests, point_tests}
use Rattle.model.proofs.Booleans.{and_out, not_out, true_of, false_of, of_true, within_in}
use Rattle.model.proofs.Lists.{member_at, every_map, any_has, map_from, length_map_below}
use Rattle.model.proofs.Tests.{passed}

-- a letter that is found is one of the list's, which begins with letter a + 1
found_most : (a c : ℕ) (xs : List ℕ) → letter_from (suc a) c xs ≤ a + length xs
found_most a c [] = omega arith
found_most a c (x ∷ xs) = go (eqb x c) (found_most (suc a) c xs)
  where
    go : (b : Bool) → letter_from (suc (suc a)) c xs ≤ suc a + length xs → cond b (suc a) (letter_from (suc (suc a)) c xs) ≤ a + suc (length xs)
    go true r = omega arith
    go false r = omega arith

found_least : (a c : ℕ) (xs : List ℕ) → letter_from a c xs < a → letter_from a c xs ≡ 0
found_least a c [] h = refl
found_least a c (x ∷ xs) h = go (eqb x c) h (found_least (suc a) c xs)
  where
    go : (b : Bool) → cond b a (letter_from (suc a) c xs) < a → (letter_from (suc a) c xs < suc a → letter_from (suc a) c xs ≡ 0) → cond b a (letter_from (suc a) c xs) ≡ 0
    go true h r = absurd (omega arith)
    go false h r = r (omega arith)

-- it has the code point
found_has : (a c : ℕ) (xs : List ℕ) (i : ℕ) → letter_from (suc a) c xs ≡ suc (a + i) → (i < length xs) × (get_or xs i 0 ≡ c)
found_has a c [] i e = absurd (omega arith)
found_has a c (x ∷ xs) i e = go (eqb x c) refl i e (found_has (suc a) c xs)
  where
    go : (b : Bool) → eqb x c ≡ b → (i : ℕ) → cond b (suc a) (letter_from (suc (suc a)) c xs) ≡ suc (a + i)
        → ((j : ℕ) → letter_from (suc (suc a)) c xs ≡ suc (suc a + j) → (j < length xs) × (get_or xs j 0 ≡ c)) → (i < suc (length xs)) × (get_or (x ∷ xs) i 0 ≡ c)
    go true h zero e r = (omega arith, eqb-true x c h)
    go true h (suc i) e r = absurd (omega arith)
    go false h zero e r = absurd (omega (arith, found_least (suc (suc a)) c xs (omega arith)))
    go false h (suc i) e r = let t = r i (omega arith) in (omega (arith, t.0), t.1)

-- where none is found, none has it
found_none : (a c : ℕ) (xs : List ℕ) → letter_from (suc a) c xs ≡ 0 → (i : ℕ) → i < length xs → get_or xs i 0 ≡ c → ⊥
found_none a c [] e i h f = omega arith
found_none a c (x ∷ xs) e i h f = go (eqb x c) refl e i h f (found_none (suc a) c xs)
  where
    go : (b : Bool) → eqb x c ≡ b → cond b (suc a) (letter_from (suc (suc a)) c xs) ≡ 0 → (i : ℕ) → i < suc (length xs) → get_or (x ∷ xs) i 0 ≡ c
        → (letter_from (suc (suc a)) c xs ≡ 0 → (j : ℕ) → j < length xs → get_or xs j 0 ≡ c → ⊥) → ⊥
    go true k e i h f r = omega arith
    go false k e zero h f r = eqb-false x c k f
    go false k e (suc i) h f r = r e i (omega arith) f

-- and where no code point stands twice, each has its own letter
found_at : (a : ℕ) (xs : List ℕ) (i : ℕ) → T (distinct eqb xs) → i < length xs → letter_from a (get_or xs i 0) xs ≡ a + i
found_at a [] i t h = absurd (omega arith)
found_at a (x ∷ xs) zero t h = rw (eq-eqb x x refl) (omega arith)
found_at a (x ∷ xs) (suc i) t h =
    let u = and_out (not (any (eqb x) xs)) (distinct eqb xs) t in
    rw (other (not_out (any (eqb x) xs) u.0)) (found_at (suc a) xs i u.1 (omega arith) ∙ omega arith)
  where
    other : any (eqb x) xs ≡ false → eqb x (get_or xs i 0) ≡ false
    other e = false_of (eqb x (get_or xs i 0)) (λ t. subst T e (any_has (eqb x) xs (member_at xs i 0 (omega arith)) t))

module _ (image : List ℕ) where
  abbrev letters : ℕ
  letters = (header image).letters

  abbrev point : ℕ → ℕ
  point i = get_or (code_points image) i 0

  length_points : length (code_points image) ≡ letters
  unfolding code_points
  length_points = length_map_below (λ i. number (record_at image 2 i) 0) letters

  pub letter_most : (c : ℕ) → letter_of image c ≤ letters
  unfolding letter_of
  letter_most c = omega (arith, found_most 0 c (code_points image), length_points)

  pub spelled_most : (c : ℕ) → letter_spelled image c ≤ letters
  unfolding letter_spelled
  spelled_most c = go (is_zero (letter_of image c))
    where
      go : (b : Bool) → cond b (letter_of image (fold c)) (letter_of image c) ≤ letters
      go true = letter_most (fold c)
      go false = letter_most c

  -- The letter that has a code point, in words: letter i + 1, whose code point stands at place i, or none.
  pub letter_is : T (right_letters image) → (c i : ℕ) → (letter_of image c ≡ suc i) ↔ ((i < letters) × (point i ≡ c))
  unfolding letter_of right_letters
  letter_is t c i = (
    λ e. let u = found_has 0 c (code_points image) i (omega arith) in (omega (arith, u.0, length_points), u.1),
    λ u. ap (λ (d : ℕ). letter_from 1 d (code_points image)) (sym u.1) ∙ found_at 1 (code_points image) i (and_out (every is_code_point (code_points image)) (distinct eqb (code_points image)) t).1 (omega (arith, u.0, length_points)) ∙ omega arith,
  )

  pub letter_none : (c : ℕ) → letter_of image c ≡ 0 → (i : ℕ) → i < letters → point i ≡ c → ⊥
  unfolding letter_of
  letter_none c e i h f = found_none 0 c (code_points image) e i (omega (arith, length_points)) f

  own_letter : (c a : ℕ) → letter_of image c ≡ suc a → letter_spelled image c ≡ suc a
  unfolding letter_spelled
  own_letter c a e = rw (e, ne_eqb (suc a) 0 (λ f. omega arith)) refl

  -- "A code point that is itself in the alphabet is never folded": it gives its own letter
  pub never_folded : T (right_letters image) → (i : ℕ) → i < letters → letter_spelled image (point i) ≡ suc i
  never_folded t i h = own_letter (point i) i ((letter_is t (point i) i).1 (h, refl))

  -- another is spelled as the code point that it is folded to, which is folded no further
  module _ (c : ℕ) (none : letter_of image c ≡ 0) where
    pub folded : letter_spelled image c ≡ letter_of image (fold c)
    unfolding letter_spelled
    folded = rw none refl

    pub folded_alike : letter_spelled image c ≡ letter_spelled image (fold c)
    unfolding letter_spelled
    folded_alike = folded ∙ go (letter_of image (fold c)) refl
      where
        go : (a : ℕ) → letter_of image (fold c) ≡ a → a ≡ letter_spelled image (fold c)
        go zero e = sym (rw e (ap (letter_of image) (fold_twice c) ∙ e))
        go (suc a) e = sym (own_letter (fold c) a e)

  -- what is spelled passes 9 and 10, so that analysis refuses it for neither
  module _ (points : List ℕ) where
    pub length_spelled : length (word_spelled image points) ≡ length (numbers points)
    unfolding word_spelled
    length_spelled = length-map (numbers points) (letter_spelled image)

    spelled_within : T (every (leb 2) (word_spelled image points)) → T (every (within 2 letters) (word_spelled image points))
    unfolding word_spelled
    spelled_within t = every_map (leb 2) (within 2 letters) (map (letter_spelled image) (numbers points)) one t
      where
        one : (a : ℕ) → Memᴰ a (map (letter_spelled image) (numbers points)) → T (leb 2 a) → T (within 2 letters a)
        one a m t = let u = map_from (letter_spelled image) (numbers points) m in within_in 2 letters a (leb→le 2 a t) (rw u.2 (spelled_most u.0))

    pub spelled_admissible : (room : ℕ) → first_failing (point_tests image points room) ≡ accepted → first_failing (word_tests image (word_spelled image points)) ≡ accepted
    unfolding point_tests word_tests
    spelled_admissible room e =
        let even = eqb (length points % 2) 0 in
        let nine = passed (even && word_length (numbers points)) 9 _ e in
        let long = (and_out even (word_length (numbers points)) (of_true (even && word_length (numbers points)) nine.0)).1 in
        let right = of_true (every (leb 2) (word_spelled image points)) (passed (every (leb 2) (word_spelled image points)) 23 _ nine.1).0 in
        rw (ap (within 1 32) length_spelled ∙ true_of (word_length (numbers points)) long, true_of (every (within 2 letters) (word_spelled image points)) (spelled_within right)) refl
