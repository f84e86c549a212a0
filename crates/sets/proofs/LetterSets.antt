-- Sets: a set as it stands in the image, the test of its letters, and what a side sees, by which it is compared as one that names no set.
use Prim.Native.Nat.{ℕ, suc, ◌+◌, ◌*◌, ◌-◌, ◌/◌, ◌%◌, ◌<◌, ◌≤◌, ◌^◌}
use native.Mathlib.Omega.{arith}
use native.Mathlib.Decide.{ℕ_discrete, dec_le}
use mathlib.Core.Bool.{Bool, true, false, ◌&&◌, ◌||◌, not, cond, true≢false}
use mathlib.Core.Path.{◌≡◌, refl, sym, ap, ap₂, ◌∙◌, subst}
use mathlib.Core.List.{List, [], ◌∷◌, map}
use lib.ListN.{length, get_or, take, drop, get_or-eq_default, length-drop}
use lib.Seq.{get_or-drop, take-length}
use lib.Dec.{T, leb, eqb, eqb→eq}
use borrow.Author.Tests.{le-leb, lt-leb, eq-eqb, ne_eqb}
use Rattle.model.specs.Lists.{below, every, is_zero, byte, bit}
use Rattle.model.specs.Blocks.{Header, header, kinds, record_start, record_at}
use Rattle.model.specs.RuleTables.{Pair, Sides, letter_sets, in_set, is_set, names_set, matches_side, matches}
use Rattle.model.proofs.Booleans.{within_out, and_in, of_true, true_of, false_of, not_both, eq→eqb}
use Rattle.model.proofs.Lists.{bit_none, below_has, below_from, every_in, every_at, get_d_map_below, length_map_below}
use Rattle.model.proofs.Rest.{every_get_d}
use Rattle.image.specs.Laid.{Laid}
use Rattle.image.proofs.Records.{record_inside, record_part, record_length}
use Rattle.sets.proofs.Bits.{high_none, none_of, low_of}
use Rattle.sets.specs.Sides.{meets_side, meets}
use Rattle.sets.specs.Seen.{seen_by}

-- the sets of an image
module _ {image : List ℕ} {h : Header} (laid : Laid image h) (i : ℕ) where
  sets_read : (header image).sets ≡ h.sets
  sets_read = ap (λ (k : Header). k.sets) (sym laid.header_is)

  pub set_record : i < h.sets → get_or (letter_sets image) i [] ≡ record_at image 7 i
  unfolding letter_sets
  set_record k = get_d_map_below (record_at image 7) (header image).sets i [] (omega (arith, sets_read))

  -- one that is missing has no letter
  pub set_missing : (a : ℕ) → h.sets ≤ i → in_set (get_or (letter_sets image) i []) a ≡ false
  unfolding letter_sets in_set
  set_missing a k =
      ap (λ (s : List ℕ). bit (byte s (a / 8)) (a % 8)) (get_or-eq_default (letter_sets image) [] {n = i} (omega (arith, sets_read, length_map_below (record_at image 7) (header image).sets)))
      ∙ bit_none (a % 8)

  -- nor has any a letter past its 16 bytes
  pub set_past : (a : ℕ) → i < h.sets → 128 ≤ a → in_set (get_or (letter_sets image) i []) a ≡ false
  unfolding in_set kinds
  set_past a k l =
      ap (λ (s : List ℕ). bit (byte s (a / 8)) (a % 8)) (set_record k)
      ∙ ap (λ (n : ℕ). bit n (a % 8)) (get_or-eq_default (record_at image 7 i) 0 {n = a / 8} (omega (arith, record_length laid 7 i k)))
      ∙ bit_none (a % 8)

  -- where it is there, the letter's bit stands in its record
  pub set_has : (a : ℕ) → i < h.sets → bit (byte (record_at image 7 i) (a / 8)) (a % 8) ≡ in_set (get_or (letter_sets image) i []) a
  unfolding in_set
  set_has a k = ap (λ (s : List ℕ). bit (byte s (a / 8)) (a % 8)) (sym (set_record k))

  -- its record is a part of the image
  pub set_inside : i < h.sets → record_start h 7 i + 16 ≤ length image
  unfolding kinds
  set_inside k = omega (arith, record_inside laid 7 i 15 k (omega arith))

  pub set_part : record_at image 7 i ≡ take 16 (drop (record_start h 7 i) image)
  unfolding kinds
  set_part = record_part laid 7 i

  pub set_length : i < h.sets → length (record_at image 7 i) ≡ 16
  unfolding kinds
  set_length k = record_length laid 7 i k

-- the test of all sets, by their numbers
module _ (image : List ℕ) (h : Header) (laid : Laid image h) where
  pub sets_tested : every (λ i. is_set h.letters (record_at image 7 i)) (below h.sets) ≡ every (is_set h.letters) (letter_sets image)
  unfolding letter_sets
  sets_tested = sym (over (is_set h.letters) (below (header image).sets) ∙ ap (λ (k : Header). every (λ i. is_set h.letters (record_at image 7 i)) (below k.sets)) (sym laid.header_is))
    where
      over : (f : List ℕ → Bool) (xs : List ℕ) → every f (map (record_at image 7) xs) ≡ every (λ i. f (record_at image 7 i)) xs
      over f [] = refl
      over f (x ∷ xs) = ap (λ (b : Bool). f (record_at image 7 x) && b) (over f xs)

-- a part of a list whose every byte is 0
each_zero : (l : List ℕ) → ((j : ℕ) → j < length l → byte l j ≡ 0) → T (every is_zero l)
each_zero [] none = tt
each_zero (x ∷ l) none = and_in (is_zero x) (every is_zero l) (eq→eqb x 0 (none 0 (omega arith))) (each_zero l (λ j k. none (suc j) (omega arith)))

-- test 6 of a set: by the byte that has letter L and by those after it
module _ (letters : ℕ) (set : List ℕ) (most : letters < 128) where
  abbrev allows : ℕ → Bool
  allows a = leb a letters || not (in_set set a)

  abbrev last : ℕ
  last = byte set (letters / 8)

  -- no bit above L where the byte of L has none, and every byte after it is 0
  set_right : last / 2 ^ (letters % 8) ≤ 1 → ((j : ℕ) → letters / 8 < j → j < 16 → byte set j ≡ 0) → is_set letters set ≡ true
  unfolding is_set in_set
  set_right low none =
      true_of (every allows (below 128))
      (every_in allows (below 128) (λ a m. of_true (allows a) (each a (below_from 128 a m) (dec_le a letters) (ℕ_discrete (a / 8) (letters / 8)))))
    where
      each : (a : ℕ) → a < 128 → Dec (a ≤ letters) → Dec (a / 8 ≡ letters / 8) → allows a ≡ true
      each a h (yes k) d = ap (λ (b : Bool). b || not (in_set set a)) (le-leb a letters k)
      each a h (no k) (yes e) =
          ap (λ (b : Bool). b || not (in_set set a)) (lt-leb a letters (omega arith))
          ∙ ap not (ap (λ (j : ℕ). bit (byte set j) (a % 8)) e ∙ high_none last (letters % 8) (a % 8) low (omega arith))
      each a h (no k) (no e) =
          ap (λ (b : Bool). b || not (in_set set a)) (lt-leb a letters (omega arith))
          ∙ ap not (ap (λ (n : ℕ). bit n (a % 8)) (none (a / 8) (omega arith) (omega arith)) ∙ bit_none (a % 8))

  -- and back: a set that passes has no bit above L
  module _ (right : T (is_set letters set)) where
    none_above : (j i : ℕ) → j < 16 → i < 8 → letters < 8 * j + i → bit (byte set j) i ≡ false
    unfolding is_set in_set
    none_above j i h k l =
        let a = 8 * j + i in
        let q : a / 8 ≡ j = omega arith in
        let r : a % 8 ≡ i = omega arith in
        let t = every_at allows (below 128) (below_has 128 a (omega arith)) right in
        false_of (bit (byte set j) i)
        (λ b.
        let c : in_set set a ≡ bit (byte set j) i = ap₂ (λ (x y : ℕ). bit (byte set x) y) q r in
        not_both (in_set set a) (subst T (sym c) b) (subst T (ap (λ (x : Bool). x || not (in_set set a)) (lt-leb a letters l)) t))

    pub last_low : last < 2 ^ 8 → last / 2 ^ (letters % 8) ≤ 1
    last_low few = low_of 8 last (letters % 8) few (omega arith) (λ i h k. none_above (letters / 8) i (omega arith) k (omega arith))

    rest_none : (j : ℕ) → letters / 8 < j → j < 16 → byte set j < 2 ^ 8 → byte set j ≡ 0
    rest_none j h k few = none_of 8 (byte set j) few (λ i l. none_above j i k l (omega arith))

  -- so the test is right that looks at the bytes after the one of L alone, where that one has no bit above L
  module _ (size : length set ≡ 16) (small : (j : ℕ) → byte set j < 2 ^ 8) where
    rest : List ℕ
    rest = drop (letters / 8 + 1) (take 16 set)

    whole : take 16 set ≡ set
    whole = ap (λ (n : ℕ). take n set) (sym size) ∙ take-length set

    rest_byte : (j : ℕ) → byte rest j ≡ byte set (letters / 8 + 1 + j)
    unfolding rest
    rest_byte j = get_or-drop (letters / 8 + 1) (take 16 set) j 0 ∙ ap (λ (l : List ℕ). byte l (letters / 8 + 1 + j)) whole

    rest_length : length rest ≡ 16 - (letters / 8 + 1)
    unfolding rest
    rest_length = length-drop (letters / 8 + 1) (take 16 set) ∙ ap (λ (l : List ℕ). length l - (letters / 8 + 1)) whole ∙ ap (λ (n : ℕ). n - (letters / 8 + 1)) size

    pub rest_tested : last / 2 ^ (letters % 8) ≤ 1 → every is_zero (drop (letters / 8 + 1) (take 16 set)) ≡ is_set letters set
    unfolding rest
    rest_tested low = go (every is_zero rest) refl
      where
        zero_at : T (every is_zero rest) → (j : ℕ) → letters / 8 < j → j < 16 → byte set j ≡ 0
        zero_at t j h k =
            let at : letters / 8 + 1 + (j - (letters / 8 + 1)) ≡ j = omega arith in
            ap (byte set) (sym at) ∙ sym (rest_byte (j - (letters / 8 + 1)))
            ∙ eqb→eq (byte rest (j - (letters / 8 + 1))) 0 (every_get_d is_zero rest (j - (letters / 8 + 1)) 0 (omega (arith, rest_length)) t)

        go : (b : Bool) → every is_zero rest ≡ b → every is_zero rest ≡ is_set letters set
        go true e = e ∙ sym (set_right low (zero_at (of_true (every is_zero rest) e)))
        go false e =
            e
            ∙ sym
            (false_of (is_set letters set)
            (λ t.
            let none : T (every is_zero rest) = each_zero rest (λ j k. rest_byte j ∙ rest_none t (letters / 8 + 1 + j) (omega arith) (omega (arith, rest_length)) (small (letters / 8 + 1 + j))) in
            absurd (subst T e none)))

-- what a side sees
module _ (sets : List (List ℕ)) where
  -- one that names no set
  module _ (side : ℕ) (e : names_set side ≡ false) where
    pub plain_sees : (letter : ℕ) → seen_by sets side letter ≡ letter
    plain_sees letter = ap (λ (b : Bool). cond b (cond (in_set (get_or sets (side - 128) []) letter) side 254) letter) e

    pub plain_side_lem : (letter : ℕ) → meets_side side letter ≡ matches_side sets side letter
    unfolding matches_side
    plain_side_lem letter = sym (ap (λ (b : Bool). cond b (in_set (get_or sets (side - 128) []) letter) (eqb side 255 || eqb side letter)) e)

  -- one that names a set
  module _ (side : ℕ) (e : names_set side ≡ true) where
    pub set_sees : (letter : ℕ) → seen_by sets side letter ≡ cond (in_set (get_or sets (side - 128) []) letter) side 254
    set_sees letter = ap (λ (b : Bool). cond b (cond (in_set (get_or sets (side - 128) []) letter) side 254) letter) e

    pub set_side : (letter : ℕ) → matches_side sets side letter ≡ in_set (get_or sets (side - 128) []) letter
    unfolding matches_side
    set_side letter = ap (λ (b : Bool). cond b (in_set (get_or sets (side - 128) []) letter) (eqb side 255 || eqb side letter)) e

    named_most : side ≤ 158
    named_most = (within_out 128 158 side (of_true (names_set side) e)).1

    itself : (b : Bool) → meets_side side (cond b side 254) ≡ b
    itself true = ap₂ (λ (x y : Bool). x || y) (ne_eqb side 255 (omega (arith, named_most))) (eq-eqb side side refl)
    itself false = ap₂ (λ (x y : Bool). x || y) (ne_eqb side 255 (omega (arith, named_most))) (ne_eqb side 254 (omega (arith, named_most)))

  -- compared as one that names no set, it matches what it should
  pub seen_side : (side letter : ℕ) → meets_side side (seen_by sets side letter) ≡ matches_side sets side letter
  seen_side side letter = go (names_set side) refl
    where
      go : (b : Bool) → names_set side ≡ b → meets_side side (seen_by sets side letter) ≡ matches_side sets side letter
      go true e = ap (meets_side side) (set_sees side e letter) ∙ itself side e (in_set (get_or sets (side - 128) []) letter) ∙ sym (set_side side e letter)
      go false e = ap (meets_side side) (plain_sees side e letter) ∙ plain_side_lem side e letter

  -- a column that names no set
  pub plain_column : (c : Sides) (p : Pair) → (names_set c.lexical || names_set c.surface) ≡ false → meets c p ≡ matches sets c p
  unfolding meets matches
  plain_column c p e =
      let u = neither (names_set c.lexical) (names_set c.surface) e in
      ap₂ (λ (x y : Bool). x && y) (plain_side_lem c.lexical u.0 p.lexical) (plain_side_lem c.surface u.1 p.surface)
    where
      neither : (a b : Bool) → (a || b) ≡ false → (a ≡ false) × (b ≡ false)
      neither false b e = (refl, e)
      neither true b e = absurd (true≢false e)
