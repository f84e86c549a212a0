-- Bits of a number: the one at a place, and the numbers that have none from some place on.
use Prim.Native.Nat.{ℕ, zero, suc, ◌/◌, ◌%◌, ◌<◌, ◌≤◌, ◌^◌}
use native.Mathlib.Omega.{arith}
use native.Mathlib.Numerals.{one-add}
use mathlib.Core.Bool.{false, true≢false}
use mathlib.Core.Path.{◌≡◌, refl, sym, ap, ◌∙◌}
use lib.Dec.{eqb}
use Rattle.std.proofs.lemmas.Nat.{shr-shr}
use Rattle.model.specs.Lists.{bit}
use Rattle.model.proofs.Lists.{bit_none}

-- shifted by one place more, a number is its half shifted
shift_more : (n k : ℕ) → n / 2 ^ suc k ≡ n / 2 / 2 ^ k
shift_more n k = sym (shr-shr n 1 k ∙ ap (λ (m : ℕ). n / 2 ^ m) (one-add k))

pub bit_shifted : (n i : ℕ) → eqb (n / 2 ^ i % 2) 1 ≡ bit n i
bit_shifted n zero = let e : n / 2 ^ 0 ≡ n = omega arith in ap (λ (m : ℕ). eqb (m % 2) 1) e
bit_shifted n (suc i) = ap (λ (m : ℕ). eqb (m % 2) 1) (shift_more n i) ∙ bit_shifted (n / 2) i

-- where a number shifted by k places is at most 1, no bit after k is 1
pub high_none : (n k i : ℕ) → n / 2 ^ k ≤ 1 → k < i → bit n i ≡ false
high_none n k zero l h = absurd (omega arith)
high_none n zero (suc i) l h = let e : n / 2 ≡ 0 = omega arith in ap (λ (m : ℕ). bit m i) e ∙ bit_none i
high_none n (suc k) (suc i) l h = high_none (n / 2) k i (omega (arith, shift_more n k)) (omega arith)

even_of : (n : ℕ) → eqb (n % 2) 1 ≡ false → n % 2 ≡ 0
even_of n e = go (n % 2) (omega arith) e
  where
    go : (m : ℕ) → m < 2 → eqb m 1 ≡ false → m ≡ 0
    go zero h e = refl
    go (suc zero) h e = absurd (true≢false e)
    go (suc (suc m)) h e = absurd (omega arith)

-- a number of so many bits, none of them 1, is 0
pub none_of : (bits n : ℕ) → n < 2 ^ bits → ((i : ℕ) → i < bits → bit n i ≡ false) → n ≡ 0
none_of zero n few none = omega arith
none_of (suc bits) n few none = omega (arith, even_of n (none 0 (omega arith)), none_of bits (n / 2) (omega arith) (λ i h. none (suc i) (omega arith)))

-- and one that has none after bit k is at most 1 when shifted by k places
pub low_of : (bits n k : ℕ) → n < 2 ^ bits → k < bits → ((i : ℕ) → k < i → i < bits → bit n i ≡ false) → n / 2 ^ k ≤ 1
low_of zero n k few h none = absurd (omega arith)
low_of (suc bits) n zero few h none = omega (arith, none_of bits (n / 2) (omega arith) (λ i l. none (suc i) (omega arith) (omega arith)))
low_of (suc bits) n (suc k) few h none = omega (arith, shift_more n k, low_of bits (n / 2) k (omega arith) (omega arith) (λ i l m. none (suc i) (omega arith) (omega arith)))
