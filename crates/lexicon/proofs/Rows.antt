-- Bounds of an entry's bytes: the table of places, and the bytes of an entry within the bounds of its form's length.
use Prim.Native.Nat.{ℕ, suc, ◌+◌, ◌*◌, ◌-◌, ◌<◌, ◌≤◌}
use native.Mathlib.Numerals.{add-one}
use native.Mathlib.Omega.{arith}
use native.Mathlib.Decide.{dec_lt}
use mathlib.Core.Bool.{Bool, true, false, ◌&&◌, ◌||◌, not}
use mathlib.Core.Path.{◌≡◌, refl, sym, ap, ap₂, ◌∙◌, subst}
use mathlib.Core.List.{List, [], ◌∷◌, map}
use lib.ListN.{length, get_or, take, drop, length-take, length-drop}
use lib.Seq.{get_or-take, get_or-drop}
use lib.Dec.{T, eqb, eqb→eq}
use borrow.Author.Tests.{lt-ltb, le-ltb}
use Rattle.model.specs.Lists.{below, every, flat_map, within, is_zero, byte}
use Rattle.model.proofs.Booleans.{and_out, and_in, eq→eqb, right_true, within_out, within_in}
use Rattle.model.proofs.Lists.{below_has, below_from, every_append, every_at, every_in}
use Rattle.model.proofs.Rest.{every_get_d}
use Rattle.letters.specs.Marks.{is_marked}
use Rattle.lexicon.specs.Entries.{MarkedLetters}
use Rattle.lexicon.specs.Bounds.{letter_sign, anything_sign, nothing_sign, place_of, bound_of, Bounds, in_row}

-- the table of places, row by row
unfoldable pub rows : List ℕ
rows = flat_map (λ n. map (place_of n) (below 16)) (below 13)

pub row_place : (n i : ℕ) → n < 13 → i < 16 → byte rows (16 * n + i) ≡ place_of n i
unfolding rows
row_place n i h k =
    let right : ℕ → ℕ → Bool = λ n i. eqb (byte rows (16 * n + i)) (place_of n i) in
    eqb→eq (byte rows (16 * n + i)) (place_of n i) (every_at (right n) (below 16) (below_has 16 i k) (every_at (λ n. every (right n) (below 16)) (below 13) (below_has 13 n h) tt))

both_ways : (a b : Bool) → (T a → T b) → (T b → T a) → a ≡ b
both_ways true true f g = refl
both_ways true false f g = absurd (f tt)
both_ways false true f g = absurd (g tt)
both_ways false false f g = refl

-- one number more
pub below_more : (f : ℕ → Bool) (k : ℕ) → every f (below (k + 1)) ≡ (every f (below k) && f k)
below_more f k = ap (λ (n : ℕ). every f (below n)) (add-one k) ∙ every_append f (below k) (k ∷ []) ∙ ap (λ (b : Bool). every f (below k) && b) (right_true (f k) true refl)

-- what passes at each place passes everywhere
every_each : (f : ℕ → Bool) (xs : List ℕ) → ((i : ℕ) → i < length xs → T (f (get_or xs i 0))) → T (every f xs)
every_each f [] each = tt
every_each f (x ∷ xs) each = and_in (f x) (every f xs) (each 0 (omega arith)) (every_each f xs (λ i h. each (suc i) (omega arith)))

-- a part of a list, from a place on
module _ (f : ℕ → Bool) (from count : ℕ) (l : List ℕ) (inside : from + count ≤ length l) where
  part_size : length (drop from (take (from + count) l)) ≡ count
  part_size = omega (arith, length-drop from (take (from + count) l), length-take (from + count) l)

  part_byte : (i : ℕ) → i < count → get_or (drop from (take (from + count) l)) i 0 ≡ byte l (from + i)
  part_byte i h = get_or-drop from (take (from + count) l) i 0 ∙ get_or-take (from + count) l (from + i) 0 (omega arith)

  part_out : T (every f (drop from (take (from + count) l))) → (i : ℕ) → i < count → T (f (byte l (from + i)))
  part_out t i h = subst (λ (b : ℕ). T (f b)) (part_byte i h) (every_get_d f (drop from (take (from + count) l)) i 0 (omega (arith, part_size)) t)

  part_in : ((i : ℕ) → i < count → T (f (byte l (from + i)))) → T (every f (drop from (take (from + count) l)))
  part_in each =
      every_each f (drop from (take (from + count) l))
      (λ i h. let k : i < count = omega (arith, part_size) in subst (λ (b : ℕ). T (f b)) (sym (part_byte i k)) (each i k))

-- an entry's bytes from `at` on, n letters in its form
module _ (letters : ℕ) (low high image : List ℕ) (lows : Bounds 2 0 low) (highs : Bounds letters 255 high) (bytes : (i : ℕ) → byte image i < 256) (n at : ℕ) (short : n ≤ 12) (inside : at + 16 < length image) where
  abbrev fits : ℕ → Bool
  fits = in_row low high (16 * n) image (at + 1)

  abbrev after : ℕ → ℕ
  after i = byte image (at + 1 + i)

  fits_by : (i place : ℕ) → i < 16 → place_of n i ≡ place → fits i ≡ within (bound_of 2 0 place) (bound_of letters 255 place) (after i)
  fits_by i place h e = ap₂ (λ (a b : ℕ). within a b (after i)) (lows.bound n i (omega arith) h ∙ ap (bound_of 2 0) e) (highs.bound n i (omega arith) h ∙ ap (bound_of letters 255) e)

  fits_letter : (i : ℕ) → i < n → fits i ≡ within 2 letters (after i)
  fits_letter i h = fits_by i letter_sign (omega arith) (rw (lt-ltb i n h) refl)

  fits_none : (i : ℕ) → n ≤ i → i < 12 → fits i ≡ within 0 0 (after i)
  fits_none i h k = fits_by i nothing_sign (omega arith) (rw (le-ltb i n h, lt-ltb i 12 k) refl)

  fits_anything : (i : ℕ) → 12 ≤ i → i < 16 → fits i ≡ within 0 255 (after i)
  fits_anything i h k = fits_by i anything_sign k (rw (le-ltb i n (omega arith), le-ltb i 12 h) refl)

  abbrev form : List ℕ
  form = drop (at + 1) (take (at + (1 + n)) image)

  abbrev rest : List ℕ
  rest = drop (at + (1 + n)) (take (at + 13) image)

  abbrev Told : Type 0
  Told = T (every (within 2 letters) (drop (at + 1) (take (at + 1 + n) image))) × T (every is_zero (drop (at + 1 + n) (take (at + 1 + n + (12 - n)) image)))

  told : T (every fits (below 16)) → Told
  told t =
      let fit : (i : ℕ) → i < 16 → T (fits i) = λ i h. every_at fits (below 16) (below_has 16 i h) t in (
        part_in (within 2 letters) (at + 1) n image (omega arith) (λ i h. subst T (fits_letter i h) (fit i (omega arith))),
        part_in is_zero (at + 1 + n) (12 - n) image (omega arith)
            (λ i h.
            let k = subst T (fits_none (n + i) (omega arith) (omega arith)) (fit (n + i) (omega arith)) in
            let e : at + 1 + (n + i) ≡ at + 1 + n + i = omega arith in
            eq→eqb (byte image (at + 1 + n + i)) 0 (subst (λ (j : ℕ). byte image j ≡ 0) e (omega (arith, (within_out 0 0 (after (n + i)) k).1)))),
      )

  back : Told → T (every fits (below 16))
  back t = every_in fits (below 16) (λ i m. go i (below_from 16 i m) (dec_lt i n) (dec_lt i 12))
    where
      go : (i : ℕ) → i < 16 → Dec (i < n) → Dec (i < 12) → T (fits i)
      go i h (yes k) d = subst T (sym (fits_letter i k)) (part_out (within 2 letters) (at + 1) n image (omega arith) t.0 i k)
      go i h (no k) (yes l) =
          let z = part_out is_zero (at + 1 + n) (12 - n) image (omega arith) t.1 (i - n) (omega arith) in
          let e : at + 1 + n + (i - n) ≡ at + 1 + i = omega arith in
          let q : after i ≡ 0 = subst (λ (j : ℕ). byte image j ≡ 0) e (eqb→eq (byte image (at + 1 + n + (i - n))) 0 z) in
          subst T (sym (fits_none i (omega arith) l)) (within_in 0 0 (after i) (omega arith) (omega (arith, q)))
      go i h (no k) (no l) = subst T (sym (fits_anything i (omega arith) h)) (within_in 0 255 (after i) (omega arith) (omega (arith, bytes (at + 1 + i))))

  pub bounded_is : every fits (below 16) ≡ (every (within 2 letters) form && every is_zero rest)
  bounded_is =
      let a : at + 1 + n ≡ at + (1 + n) = omega arith in
      let b : at + 1 + n + (12 - n) ≡ at + 13 = omega arith in
      let w = every (within 2 letters) (drop (at + 1) (take (at + 1 + n) image)) in
      let z = every is_zero (drop (at + 1 + n) (take (at + 1 + n + (12 - n)) image)) in
      both_ways (every fits (below 16)) (w && z) (λ t. let u = told t in and_in w z u.0 u.1) (λ t. back (and_out w z t))
      ∙ ap₂ (λ (x y : Bool). x && y) (ap (λ (k : ℕ). every (within 2 letters) (drop (at + 1) (take k image))) a) (ap₂ (λ (j k : ℕ). every is_zero (drop j (take k image))) a b)

-- where the marks are no fewer than the letters, there is no need to look at them
module _ (marked : List ℕ) (letters : ℕ) (look : Bool) (are : MarkedLetters marked letters look) where
  pub looked_is : (l : List ℕ) → every (is_marked marked) l ≡ (every (within 2 letters) l && (not look || every (is_marked marked) l))
  looked_is l = go look refl
    where
      marks_letters : T (every (is_marked marked) l) → T (every (within 2 letters) l)
      marks_letters t = every_in (within 2 letters) l (λ a m. are.is_letter a (every_at (is_marked marked) l m t))

      go : (b : Bool) → look ≡ b → every (is_marked marked) l ≡ (every (within 2 letters) l && (not b || every (is_marked marked) l))
      go true e =
          both_ways (every (is_marked marked) l) (every (within 2 letters) l && every (is_marked marked) l)
          (λ t. and_in (every (within 2 letters) l) (every (is_marked marked) l) (marks_letters t) t)
          (λ t. (and_out (every (within 2 letters) l) (every (is_marked marked) l) t).1)
      go false e =
          both_ways (every (is_marked marked) l) (every (within 2 letters) l && true)
          (λ t. and_in (every (within 2 letters) l) true (marks_letters t) tt)
          (λ t. every_in (is_marked marked) l (λ a m. are.each e a (every_at (within 2 letters) l m (and_out (every (within 2 letters) l) true t).0)))
