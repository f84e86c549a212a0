-- The numbers of a row, place by place: the counts, the used places and the unused ones.
use Prim.Native.Nat.{ℕ, suc, ◌+◌, ◌-◌, ◌<◌, ◌≤◌}
use native.Mathlib.Numerals.{add-one}
use native.Mathlib.Omega.{arith}
use mathlib.Core.Path.{◌≡◌, refl, sym, ap, ◌∙◌}
use mathlib.Core.List.{List, [], ◌∷◌, ◌++◌}
use lib.ListN.{length, get_or, set, take, replicate, length-take, length-append, length-replicate, get_or-replicate, get_or-append}
use lib.Seq.{take-suc-set, get_or-take, get_or-append-add, length-take-le}
use Rattle.model.specs.Readings.{Reading}
use Rattle.model.specs.Rows.{padded, row_numbers}
use Rattle.rows.specs.Trail.{row_number}

-- one more, stored after the first n
pub take_more : (l : List ℕ) (n a : ℕ) → n < length l → take (n + 1) (set l n a) ≡ take n l ++ (a ∷ [])
take_more l n a h = rw add-one (take-suc-set l n a h)

length_padded : (w : ℕ) (l : List ℕ) → length (padded w l) ≡ w
length_padded w l = omega (arith, length-take w (l ++ replicate w 65535), length-append l (replicate w 65535), length-replicate {A = ℕ} w 65535)

-- a place among w, of which the first n of l are used
module _ (l : List ℕ) (w n i : ℕ) (inside : i < w) where
  pub used : n ≤ length l → i < n → get_or l i 0 ≡ get_or (padded w (take n l)) i 0
  used h k =
      let j : i < length (take n l) = omega (arith, length-take-le n l h) in
      sym (get_or-take w (take n l ++ replicate w 65535) i 0 inside ∙ get_or-append (take n l) (replicate w 65535) 0 i j ∙ get_or-take n l i 0 k)

  pub unused : n ≤ i → 65535 ≡ get_or (padded w (take n l)) i 0
  unused h =
      let j = i - length (take n l) in
      let e : i ≡ length (take n l) + j = omega (arith, length-take n l) in
      sym (get_or-take w (take n l ++ replicate w 65535) i 0 inside
      ∙ ap (λ (m : ℕ). get_or (take n l ++ replicate w 65535) m 0) e
      ∙ get_or-append-add (take n l) (replicate w 65535) j 0
      ∙ get_or-replicate w j 65535 0 (omega arith))

module _ (r : Reading) where
  pub length_row_numbers : length (row_numbers r) ≡ 58
  unfolding row_numbers
  length_row_numbers = omega (arith, length-append (padded 16 r.path) (length r.pairing ∷ padded 40 r.pairing), length_padded 16 r.path, length_padded 40 r.pairing)

  -- its four parts
  pub entry_count_lem : length r.path ≡ row_number r 0
  unfolding row_numbers
  entry_count_lem = refl

  pub entry_number : (k : ℕ) → 0 < k → k ≤ 16 → get_or (padded 16 r.path) (k - 1) 0 ≡ row_number r k
  unfolding row_numbers
  entry_number k h m =
      let e : k ≡ suc (k - 1) = omega arith in
      let j : k - 1 < length (padded 16 r.path) = omega (arith, length_padded 16 r.path) in
      sym (ap (row_number r) e ∙ get_or-append (padded 16 r.path) (length r.pairing ∷ padded 40 r.pairing) 0 (k - 1) j)

  after_entries : (k : ℕ) → 17 ≤ k → row_number r k ≡ get_or (length r.pairing ∷ padded 40 r.pairing) (k - 17) 0
  unfolding row_numbers
  after_entries k h =
      let e : k ≡ suc (length (padded 16 r.path) + (k - 17)) = omega (arith, length_padded 16 r.path) in
      ap (row_number r) e ∙ get_or-append-add (padded 16 r.path) (length r.pairing ∷ padded 40 r.pairing) (k - 17) 0

  pub pair_count : length r.pairing ≡ row_number r 17
  pair_count = sym (after_entries 17 (omega arith))

  pub pair_number_lem : (k : ℕ) → 18 ≤ k → get_or (padded 40 r.pairing) (k - 18) 0 ≡ row_number r k
  pair_number_lem k h =
      let e : k - 17 ≡ suc (k - 18) = omega arith in
      sym (after_entries k (omega arith) ∙ ap (λ (n : ℕ). get_or (length r.pairing ∷ padded 40 r.pairing) n 0) e)
