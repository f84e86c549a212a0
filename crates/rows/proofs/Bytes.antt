-- The bytes of a row: all blank at first, then a number at a time, each in its place.
use Prim.Native.Nat.{ℕ, zero, suc, ◌+◌, ◌*◌, ◌-◌, ◌/◌, ◌%◌, ◌<◌, ◌≤◌}
use native.Mathlib.Numerals.{add-one}
use native.Mathlib.Omega.{arith}
use mathlib.Core.Path.{◌≡◌, refl, sym, ap, ◌∙◌}
use mathlib.Core.List.{List, [], ◌∷◌, ◌++◌, append-nil}
use lib.ListN.{length, set, take, replicate, length-append, length-take, length-replicate}
use lib.Seq.{take-suc, take_all, set_at, append_snoc}
use Rattle.model.specs.Lists.{flat_map, number_bytes}
use Rattle.model.specs.Readings.{Reading}
use Rattle.model.specs.Rows.{row_numbers, row_bytes}
use Rattle.model.proofs.Parts.{length_parts}
use Rattle.rows.specs.Trail.{row_number, row_up_to}
use Rattle.rows.proofs.Places.{length_row_numbers}

-- a number stored as its two bytes
stored : (l : List ℕ) (k n : ℕ) → set (set (flat_map number_bytes l) (2 * k) (n % 256)) (2 * k + 1) (n / 256 % 256) ≡ flat_map number_bytes (set l k n)
stored [] k n = refl
stored (x ∷ l) zero n = refl
stored (x ∷ l) (suc k) n =
    let p : 2 * suc k ≡ suc (suc (2 * k)) = omega arith in
    let q : 2 * suc k + 1 ≡ suc (suc (2 * k + 1)) = omega arith in
    rw (q, p) (ap (λ (m : List ℕ). x % 256 ∷ x / 256 % 256 ∷ m) (stored l k n))

module _ (r : Reading) where
  long_enough : (k : ℕ) → k ≤ 58 → length (take k (row_numbers r)) ≡ k
  long_enough k h = omega (arith, length-take k (row_numbers r), length_row_numbers r)

  pub length_row_up_to : (k : ℕ) → k ≤ 58 → length (row_up_to r k) ≡ 116
  unfolding row_up_to
  length_row_up_to k h =
      let l = take k (row_numbers r) ++ replicate (58 - k) 65535 in
      length_parts 2 number_bytes l (λ n m. refl) ∙ omega (arith, length-append (take k (row_numbers r)) (replicate (58 - k) 65535), long_enough k h, length-replicate {A = ℕ} (58 - k) 65535)

  pub up_to_none : replicate 116 255 ≡ row_up_to r 0
  unfolding row_up_to
  up_to_none = refl

  one_more : (k : ℕ) → k < 58 → take (k + 1) (row_numbers r) ++ replicate (58 - (k + 1)) 65535 ≡ take k (row_numbers r) ++ row_number r k ∷ replicate (58 - (k + 1)) 65535
  one_more k h =
      let inside : k < length (row_numbers r) = omega (arith, length_row_numbers r) in
      rw (add-one, take-suc (row_numbers r) k 0 inside) (append_snoc (take k (row_numbers r)) (row_number r k) (replicate (58 - suc k) 65535))

  one_unused : (k : ℕ) → k < 58 → replicate {A = ℕ} (58 - k) 65535 ≡ 65535 ∷ replicate (58 - (k + 1)) 65535
  one_unused k h = let e : 58 - k ≡ suc (58 - (k + 1)) = omega arith in rw e refl

  -- one number more, at byte m, from what a turn has in hand
  pub up_to_more : (k m n : ℕ) (row row' : List ℕ) → k < 58 → m ≡ 2 * k → n ≡ row_number r k → row ≡ row_up_to r k
      → row' ≡ set (set row m (n % 256)) (m + 1) (n / 256 % 256) → row' ≡ row_up_to r (k + 1)
  unfolding row_up_to
  up_to_more k m n row row' h at e f g =
      let ns = row_numbers r in
      let rest : List ℕ = replicate (58 - (k + 1)) 65535 in
      let two = stored (take k ns ++ replicate (58 - k) 65535) k (row_number r k) in
      rw (g, f, at, e, two, one_unused k h, set_at (take k ns) 65535 rest (row_number r k) k (long_enough k (omega arith)), one_more k h) refl

  -- an unused place is there already
  up_to_unused : (k : ℕ) → k < 58 → 65535 ≡ row_number r k → row_up_to r k ≡ row_up_to r (k + 1)
  unfolding row_up_to
  up_to_unused k h e = rw (one_unused k h, one_more k h, ← e) refl

  -- and so are all that follow one another
  pub up_to_rest : (k j : ℕ) → k + j ≤ 58 → ((i : ℕ) → k ≤ i → i < k + j → 65535 ≡ row_number r i) → row_up_to r k ≡ row_up_to r (k + j)
  up_to_rest k zero h all = ap (row_up_to r) (omega arith)
  up_to_rest k (suc j) h all =
      let e : k + suc j ≡ (k + j) + 1 = omega arith in
      up_to_rest k j (omega arith) (λ i m n. all i m (omega arith)) ∙ up_to_unused (k + j) (omega arith) (all (k + j) (omega arith) (omega arith)) ∙ ap (row_up_to r) (sym e)

  pub up_to_all : row_up_to r 58 ≡ row_bytes r
  unfolding row_up_to row_bytes
  up_to_all = ap (flat_map number_bytes) (append-nil (take 58 (row_numbers r)) ∙ take_all 58 (row_numbers r) (omega (arith, length_row_numbers r)))
