-- Bytes that are all 0, filled part by part.
use Prim.Native.Nat.{ℕ, ◌+◌}
use native.Mathlib.Omega.{arith}
use mathlib.Core.Path.{◌≡◌, refl, ap, ap₂, ◌∙◌}
use mathlib.Core.List.{List, [], ◌++◌, append-nil}
use lib.ListN.{length, take, drop, replicate, length-append, length-replicate}
use lib.Seq.{take_at, drop_at}
use borrow.Rule.Slice.PartMut.{put_mid}
use Rattle.tables.proofs.RowByRow.{take_replicate, drop_replicate}

-- two parts, filled one after the other
module _ (m n : ℕ) (zeros : List ℕ) (e : zeros ≡ replicate (m + n) 0) where
  pub length_zeros : length zeros ≡ m + n
  length_zeros = ap length e ∙ length-replicate (m + n) 0

  pub first_part : take m zeros ≡ replicate m 0
  first_part = ap (take m) e ∙ take_replicate m (m + n) 0 (omega arith)

  -- the first is filled, the second not yet
  pub one_part : (xs : List ℕ) → xs ++ drop m zeros ≡ xs ++ replicate n 0
  one_part xs = ap (λ (l : List ℕ). xs ++ l) (drop_replicate zeros (m + n) m m n 0 e refl refl)

  module _ (xs : List ℕ) (k : length xs ≡ m) where
    left_over : drop m (xs ++ drop m zeros) ≡ replicate n 0
    left_over = drop_at xs (drop m zeros) m k ∙ drop_replicate zeros (m + n) m m n 0 e refl refl

    pub second_part : take n (drop m (xs ++ drop m zeros)) ≡ replicate n 0
    second_part = ap (take n) left_over ∙ take_replicate n n 0 (omega arith)

    pub both_parts : (ys : List ℕ) → put_mid m n (xs ++ drop m zeros) ys ≡ xs ++ ys
    both_parts ys =
        let l : drop n (drop m (xs ++ drop m zeros)) ≡ [] = drop_replicate (drop m (xs ++ drop m zeros)) n n n 0 0 left_over refl (omega arith) in
        ap₂ (λ (x y : List ℕ). x ++ (ys ++ y)) (take_at xs (drop m zeros) m k) l ∙ ap (λ (y : List ℕ). xs ++ y) (append-nil ys)

-- the second part, where the first is filled
module _ (m n : ℕ) (xs bytes : List ℕ) (k : length xs ≡ m) (e : bytes ≡ xs ++ replicate n 0) where
  pub length_bytes : length bytes ≡ m + n
  length_bytes = ap length e ∙ omega (arith, length-append xs (replicate n 0), length-replicate {A = ℕ} n 0)

  after : drop m bytes ≡ replicate n 0
  after = ap (drop m) e ∙ drop_at xs (replicate n 0) m k

  pub last_part : take n (drop m bytes) ≡ replicate n 0
  last_part = ap (take n) after ∙ take_replicate n n 0 (omega arith)

  pub last_filled : (ys : List ℕ) → put_mid m n bytes ys ≡ xs ++ ys
  last_filled ys =
      let l : drop n (drop m bytes) ≡ [] = drop_replicate (drop m bytes) n n n 0 0 after refl (omega arith) in
      ap₂ (λ (x y : List ℕ). x ++ (ys ++ y)) (ap (take m) e ∙ take_at xs (replicate n 0) m k) l ∙ ap (λ (y : List ℕ). xs ++ y) (append-nil ys)
