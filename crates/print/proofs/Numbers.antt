-- Numbers as text: digit after digit, and number after number with a space between.
use Prim.Native.Nat.{ℕ, zero, suc, ◌+◌, ◌*◌, ◌/◌, ◌%◌, ◌^◌, ◌<◌, ◌≤◌}
use native.Mathlib.Numerals.{add-one}
use native.Mathlib.Decide.{dec_lt}
use native.Mathlib.Omega.{arith}
use mathlib.Core.Bool.{cond}
use mathlib.Core.Path.{◌≡◌, refl, sym, ap, ◌∙◌}
use mathlib.Core.List.{List, [], ◌∷◌, ◌++◌, append_assoc}
use lib.ListN.{length, length-append}
use lib.Dec.{ltb}
use borrow.Author.Tests.{lt-ltb, le-ltb}
use Rattle.model.specs.Lists.{number}
use Rattle.model.specs.Lines.{digits, decimal, spaced}
use Rattle.model.proofs.Lists.{map_below, length_map_below}
use Rattle.print.specs.Text.{numbers_from, spaced_at}

-- more steps than a number needs change nothing
digits_enough : (j k n : ℕ) → n ≤ j → n ≤ k → digits j n ≡ digits k n
unfolding digits
digits_enough zero zero n h m = refl
digits_enough zero (suc k) n h m = let e : n < 10 = omega arith in rw (lt-ltb n 10 e)
digits_enough (suc j) zero n h m = let e : n < 10 = omega arith in rw (lt-ltb n 10 e)
digits_enough (suc j) (suc k) n h m = ap (λ (l : List ℕ). cond (ltb n 10) ((48 + n) ∷ []) (l ++ ((48 + n % 10) ∷ []))) (digits_enough j k (n / 10) (omega arith) (omega arith))

module _ (n : ℕ) where
  pub decimal_digit : n < 10 → decimal n ≡ (48 + n) ∷ []
  unfolding digits
  decimal_digit h = digits_enough n (suc n) n (omega arith) (omega arith) ∙ rw (lt-ltb n 10 h)

  pub decimal_more : 10 ≤ n → decimal n ≡ decimal (n / 10) ++ ((48 + n % 10) ∷ [])
  unfolding digits
  decimal_more h = digits_enough n (suc n) n (omega arith) (omega arith) ∙ rw (le-ltb n 10 h, digits_enough n (n / 10) (n / 10) (omega arith) (omega arith))

length_digits : (k d n : ℕ) → n < 10 ^ suc d → length (digits k n) ≤ suc d
unfolding digits
length_digits zero d n h = omega arith
length_digits (suc k) d n h = go d h (dec_lt n 10) (λ d m. length_digits k d (n / 10) m)
  where
    go : (d : ℕ) → n < 10 ^ suc d → Dec (n < 10) → ((d : ℕ) → n / 10 < 10 ^ suc d → length (digits k (n / 10)) ≤ suc d)
        → length (cond (ltb n 10) ((48 + n) ∷ []) (digits k (n / 10) ++ ((48 + n % 10) ∷ []))) ≤ suc d
    go d h (yes l) shorter = rw (lt-ltb n 10 l) (omega arith)
    go zero h (no l) shorter = absurd (omega arith)
    go (suc d) h (no l) shorter =
        let m : 10 ≤ n = omega arith in
        rw (le-ltb n 10 m, length-append (digits k (n / 10)) ((48 + n % 10) ∷ [])) (omega (arith, shorter d (omega arith)))

-- a number below 10, 100, .. has at most 1, 2, .. digits
pub length_decimal : (d n : ℕ) → n < 10 ^ suc d → length (decimal n) ≤ suc d
length_decimal d n h = length_digits n d n h

-- a space stands before all but the first
pub spaced_after : (i n : ℕ) → (i ≡ 0 → ⊥) → 32 ∷ decimal n ≡ spaced_at i n
spaced_after zero n h = absurd (h refl)
spaced_after (suc i) n h = refl

spaced_more : (ns : List ℕ) (n : ℕ) → spaced (ns ++ (n ∷ [])) ≡ spaced ns ++ spaced_at (length ns) n
unfolding spaced
spaced_more [] n = refl
spaced_more (m ∷ []) n = refl
spaced_more (m ∷ k ∷ ns) n = ap (λ (l : List ℕ). decimal m ++ (32 ∷ l)) (spaced_more (k ∷ ns) n) ∙ sym (append_assoc (decimal m) (32 ∷ spaced (k ∷ ns)) (32 ∷ decimal n))

pub numbers_none : (bytes : List ℕ) (from : ℕ) → [] ≡ spaced (numbers_from bytes from 0)
unfolding spaced
numbers_none bytes from = refl

-- one number more of a row
pub numbers_more : (bytes : List ℕ) (from i : ℕ) → spaced (numbers_from bytes from (i + 1)) ≡ spaced (numbers_from bytes from i) ++ spaced_at i (number bytes (from + 2 * i))
numbers_more bytes from i =
    ap (λ (n : ℕ). spaced (numbers_from bytes from n)) (add-one i)
    ∙ ap spaced (map_below (λ i. number bytes (from + 2 * i)) i)
    ∙ spaced_more (numbers_from bytes from i) (number bytes (from + 2 * i))
    ∙ ap (λ (k : ℕ). spaced (numbers_from bytes from i) ++ spaced_at k (number bytes (from + 2 * i))) (length_map_below (λ i. number bytes (from + 2 * i)) i)
