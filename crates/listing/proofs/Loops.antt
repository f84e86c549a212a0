-- Loops that try fewer than all numbers below a bound, and lose nothing: those that pass a test.
use Prim.Native.Nat.{ℕ, zero, suc, ◌<◌, ◌≤◌}
use native.Mathlib.Omega.{arith}
use mathlib.Core.Bool.{Bool, true, false}
use mathlib.Core.Path.{◌≡◌, refl, sym, ap, ap₂, ◌∙◌}
use mathlib.Core.List.{List, [], ◌∷◌, ◌++◌, append-nil}
use lib.ListN.{length, get_or, take}
use lib.Seq.{take-suc, take_all}
use Rattle.model.specs.Lists.{below, given, flat_map}
use Rattle.model.proofs.Lists.{flat_map_append, flat_map_below}
use Rattle.image.specs.Index.{only}

-- a list by its places
module _ {A B : Type 0} (f : A → List B) (d : A) where
  -- a turn more
  flat_map_more : (xs : List A) (k : ℕ) → k < length xs → flat_map f (take (suc k) xs) ≡ flat_map f (take k xs) ++ f (get_or xs k d)
  flat_map_more xs k h =
      ap (flat_map f) (take-suc xs k d h)
      ∙ flat_map_append f (take k xs) (get_or xs k d ∷ [])
      ∙ ap (λ (l : List B). flat_map f (take k xs) ++ l) (append-nil (f (get_or xs k d)))

  flat_map_taken : (xs : List A) (k : ℕ) → k ≤ length xs → flat_map f (take k xs) ≡ flat_map (λ i. f (get_or xs i d)) (below k)
  flat_map_taken xs zero h = refl
  flat_map_taken xs (suc k) h =
      flat_map_more xs k h
      ∙ ap (λ (l : List B). l ++ f (get_or xs k d)) (flat_map_taken xs k (omega arith))
      ∙ sym (flat_map_below (λ i. f (get_or xs i d)) k)

  pub flat_map_places : (xs : List A) → flat_map f xs ≡ flat_map (λ i. f (get_or xs i d)) (below (length xs))
  flat_map_places xs = ap (flat_map f) (sym (take_all (length xs) xs (omega arith))) ∙ flat_map_taken xs (length xs) (omega arith)

module _ {B : Type 0} (f : ℕ → List B) where
  -- nothing is found where the test fails
  pub flat_map_only : (test : ℕ → Bool) (xs : List ℕ) → ((x : ℕ) → test x ≡ false → f x ≡ []) → flat_map f xs ≡ flat_map f (only test xs)
  flat_map_only test [] e = refl
  flat_map_only test (x ∷ xs) e = go (test x) refl (flat_map_only test xs e)
    where
      go : (b : Bool) → test x ≡ b → flat_map f xs ≡ flat_map f (only test xs) → f x ++ flat_map f xs ≡ flat_map f (given b (x ∷ []) ++ only test xs)
      go true t r = ap (λ (l : List B). f x ++ l) r
      go false t r = ap₂ (λ (k l : List B). k ++ l) (e x t) r

  -- nothing is found below a bound
  pub below_low : (low n : ℕ) → ((x : ℕ) → x < low → f x ≡ []) → n ≤ low → flat_map f (below n) ≡ []
  below_low low zero e h = refl
  below_low low (suc n) e h = flat_map_below f n ∙ ap₂ (λ (k l : List B). k ++ l) (below_low low n e (omega arith)) (e n h)

-- each of those that pass a test passes it
pub only_passes : (test : ℕ → Bool) (xs : List ℕ) (i : ℕ) → i < length (only test xs) → test (get_or (only test xs) i 0) ≡ true
only_passes test [] i h = absurd (omega arith)
only_passes test (x ∷ xs) i h = go (test x) refl i h (only_passes test xs)
  where
    go : (b : Bool) → test x ≡ b → (i : ℕ) → i < length (given b (x ∷ []) ++ only test xs) → ((i : ℕ) → i < length (only test xs) → test (get_or (only test xs) i 0) ≡ true) → test (get_or (given b (x ∷ []) ++ only test xs) i 0) ≡ true
    go true e zero h r = e
    go true e (suc i) h r = r i (omega arith)
    go false e i h r = r i h
