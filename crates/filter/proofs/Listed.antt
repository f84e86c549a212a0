-- A loop over an ascending list that leaves out only what finds nothing finds all.
use Prim.Native.Nat.{ℕ, zero, suc, ◌+◌, ◌<◌, ◌≤◌}
use native.Mathlib.Omega.{arith}
use native.Mathlib.Decide.{ℕ_discrete}
use mathlib.Core.Path.{◌≡◌, refl, sym, ap, ap₂, ◌∙◌}
use mathlib.Core.List.Memᴰ
use mathlib.Core.List.{List, [], ◌∷◌, ◌++◌, Memᴰ}
use lib.ListN.{length, get_or}
use Rattle.model.specs.Lists.{below, flat_map}
use Rattle.model.proofs.Lists.{flat_map_below}
use Rattle.model.proofs.Parts.{flat_map_same}
use Rattle.filter.specs.Listed.{Rising}

-- the numbers below a bound of which an ascending list names some, and the others find nothing
pub record Survive {B : Type 0} (found : ℕ → List B) (bound : ℕ) (xs : List ℕ) : Type 0 where
  pub rising : Rising 0 bound xs
  pub others : (e : ℕ) → e < bound → (Memᴰ e xs → ⊥) → found e ≡ []

-- low, low + 1, .. n of them
abbrev upward : ℕ → ℕ → List ℕ
upward low zero = []
upward low (suc n) = low ∷ upward (suc low) n

module _ {B : Type 0} (f : ℕ → List B) where
  upward_more : (n low : ℕ) → flat_map f (upward low (suc n)) ≡ flat_map f (upward low n) ++ f (low + n)
  upward_more zero low = append_none ∙ ap f low_is
    where
      low_is : low ≡ low + 0
      low_is = omega arith

      append_none : f low ++ [] ≡ f low
      append_none = nil_right (f low)
        where
          nil_right : (l : List B) → l ++ [] ≡ l
          nil_right [] = refl
          nil_right (x ∷ l) = ap {B = List B} (λ k. x ∷ k) (nil_right l)
  upward_more (suc n) low =
      ap (λ (l : List B). f low ++ l) (upward_more n (suc low))
      ∙ assoc (f low) (flat_map f (upward (suc low) n)) (f (suc low + n))
      ∙ ap (λ (m : ℕ). (f low ++ flat_map f (upward (suc low) n)) ++ f m) same
    where
      same : suc low + n ≡ low + suc n
      same = omega arith

      assoc : (a b c : List B) → a ++ (b ++ c) ≡ (a ++ b) ++ c
      assoc [] b c = refl
      assoc (x ∷ a) b c = ap {B = List B} (λ k. x ∷ k) (assoc a b c)

  below_upward : (low n : ℕ) → flat_map (λ i. f (low + i)) (below n) ≡ flat_map f (upward low n)
  below_upward low zero = refl
  below_upward low (suc n) = flat_map_below (λ i. f (low + i)) n ∙ ap (λ (l : List B). l ++ f (low + n)) (below_upward low n) ∙ sym (upward_more n low)

  rising_from : (low high : ℕ) (xs : List ℕ) (e : ℕ) → Rising low high xs → Memᴰ e xs → low ≤ e
  rising_from low high [] e r m = absurd (Memᴰ.not-nil m)
  rising_from low high (x ∷ xs) e r (Memᴰ.head h) = omega (arith, r.0, h)
  rising_from low high (x ∷ xs) e r (Memᴰ.tail m) = let b = rising_from (suc x) high xs e r.1.1 m in omega (arith, r.0)

  rising_on : (low high : ℕ) (xs : List ℕ) → Rising low high xs → (k : ℕ) → k ≤ low → Rising k high xs
  rising_on low high [] r k h = tt
  rising_on low high (x ∷ xs) r k h = (omega (arith, r.0), r.1)

  listed_upward : (n low high : ℕ) → low + n ≡ high → (xs : List ℕ) → Rising low high xs → ((e : ℕ) → low ≤ e → e < high → (Memᴰ e xs → ⊥) → f e ≡ []) → flat_map f (upward low n) ≡ flat_map f xs
  listed_upward zero low high w [] r h = refl
  listed_upward zero low high w (x ∷ xs) r h = absurd (omega (arith, r.0, r.1.0))
  listed_upward (suc n) low high w [] r h = ap₂ (λ (k l : List B). k ++ l) (h low (omega arith) (omega arith) Memᴰ.not-nil) (listed_upward n (suc low) high (omega arith) [] tt (λ e a b m. h e (omega arith) b m))
  listed_upward (suc n) low high w (x ∷ xs) r h = go (ℕ_discrete x low) (listed_upward n (suc low) high (omega arith))
    where
      after : (e : ℕ) → suc low ≤ e → (Memᴰ e xs → ⊥) → x ≡ low → Memᴰ e (x ∷ xs) → ⊥
      after e a m s (Memᴰ.head i) = omega arith
      after e a m s (Memᴰ.tail i) = m i

      go : Dec (x ≡ low) → ((ys : List ℕ) → Rising (suc low) high ys → ((e : ℕ) → suc low ≤ e → e < high → (Memᴰ e ys → ⊥) → f e ≡ []) → flat_map f (upward (suc low) n) ≡ flat_map f ys) → f low ++ flat_map f (upward (suc low) n) ≡ f x ++ flat_map f xs
      go (yes s) rec =
          ap₂ (λ (k l : List B). k ++ l) (ap f (sym s))
          (rec xs (rising_on (suc x) high xs r.1.1 (suc low) (omega arith)) (λ e a b m. h e (omega arith) b (λ i. after e a m s i)))
      go (no s) rec = ap₂ (λ (k l : List B). k ++ l) (h low (omega arith) (omega arith) (λ m. omega (arith, rising_from x high (x ∷ xs) low (omega arith, r.1) m, r.0, s))) (rec (x ∷ xs) (omega (arith, r.0, s), r.1) (λ e a b m. h e (omega arith) b m))

  -- all that is found
  pub listed : (bound : ℕ) (xs : List ℕ) → Survive f bound xs → flat_map f (below bound) ≡ flat_map f xs
  listed bound xs s =
      flat_map_same f (λ i. f (0 + i)) (below bound) (λ x m. ap f (omega arith))
      ∙ below_upward 0 bound
      ∙ listed_upward bound 0 bound (omega arith) xs s.rising (λ e a b m. s.others e b m)

pub rising_within : (low high : ℕ) (xs : List ℕ) → Rising low high xs → (bound : ℕ) → high ≤ bound → Rising 0 bound xs
rising_within low high xs r bound h = go 0 low xs (omega arith) r
  where
    go : (k low : ℕ) (xs : List ℕ) → k ≤ low → Rising low high xs → Rising k bound xs
    go k low [] l r = tt
    go k low (x ∷ xs) l r = (omega (arith, r.0), (omega (arith, r.1.0), go (suc x) (suc x) xs (omega arith) r.1.1))

-- each of them is in the range
pub rising_in : (low high : ℕ) (xs : List ℕ) → Rising low high xs → (k : ℕ) → k < length xs → (low ≤ get_or xs k 0) × (get_or xs k 0 < high)
rising_in low high [] r k h = absurd (omega arith)
rising_in low high (x ∷ xs) r zero h = (r.0, r.1.0)
rising_in low high (x ∷ xs) r (suc k) h = let u = rising_in (suc x) high xs r.1.1 k (omega arith) in (omega (arith, u.0, r.0), u.1)
