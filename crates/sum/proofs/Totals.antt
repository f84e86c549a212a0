-- Laws of sums: of equal, greater and added terms, by rows and by columns, and running sums from the last term down.
use Prim.Native.Nat.{ℕ, zero, suc, ◌+◌, ◌-◌, ◌*◌, ◌<◌, ◌≤◌}
use native.Mathlib.Nat.{mul-le-mul, mul-add, add-mul, mul_assoc, mul-suc, mul-zero, add-zero, zero-add, add-suc}
use native.Mathlib.Omega.{arith}
use mathlib.Core.Path.{◌≡◌, refl, sym, ap, ap₂, ◌∙◌, subst}
use Rattle.sum.specs.Sums.{total, by_number}

-- equal terms
pub total_same : (n : ℕ) (f g : ℕ → ℕ) → ((i : ℕ) → i < n → f i ≡ g i) → total n f ≡ total n g
unfolding total
total_same zero f g e = refl
total_same (suc n) f g e = ap₂ (λ (x y : ℕ). x + y) (total_same n f g (λ i h. e i (omega arith))) (e n (omega arith))

-- no greater term
pub total_most : (n : ℕ) (f g : ℕ → ℕ) → ((i : ℕ) → f i ≤ g i) → total n f ≤ total n g
unfolding total
total_most zero f g h = omega arith
total_most (suc n) f g h = omega (arith, total_most n f g h, h n)

-- no greater term, as often as its number says
pub most_by_number : (n : ℕ) (f : ℕ → ℕ) (m : ℕ) → ((i : ℕ) → f i ≤ m) → total n (by_number f) ≤ total n (λ i. i * m)
most_by_number n f m h = total_most n (by_number f) (λ i. i * m) (λ i. mul-le-mul {n₁ = i} {m₁ = f i} {n₂ = i} {m₂ = m} (omega arith) (h i))

pub total_add : (n : ℕ) (f g : ℕ → ℕ) → total n (λ i. f i + g i) ≡ total n f + total n g
unfolding total
total_add zero f g = refl
total_add (suc n) f g = let r = total_add n f g in omega arith

pub total_times : (n k : ℕ) (f : ℕ → ℕ) → total n (λ i. k * f i) ≡ k * total n f
unfolding total
total_times zero k f = sym (omega arith)
total_times (suc n) k f = ap (λ (m : ℕ). m + k * f n) (total_times n k f) ∙ sym (mul-add k (total n f) (f n))

-- first m terms, and then n
total_split : (m n : ℕ) (f : ℕ → ℕ) → total (m + n) f ≡ total m f + total n (λ i. f (m + i))
unfolding total
total_split m zero f = ap (λ (k : ℕ). total k f) (add-zero m) ∙ sym (add-zero (total m f))
total_split m (suc n) f = let r = total_split m n f in ap (λ (k : ℕ). total k f) (add-suc m n) ∙ omega arith

total_none : (n : ℕ) → total n (λ i. 0) ≡ 0
unfolding total
total_none zero = refl
total_none (suc n) = let r = total_none n in omega arith

-- n rows of m terms, on end
pub by_rows : (m n : ℕ) (f : ℕ → ℕ) → total (m * n) f ≡ total n (λ r. total m (λ c. f (m * r + c)))
unfolding total
by_rows m zero f = ap (λ (k : ℕ). total k f) (mul-zero m)
by_rows m (suc n) f = ap (λ (k : ℕ). total k f) (mul-suc m n) ∙ total_split (m * n) m f ∙ ap (λ (k : ℕ). k + total m (λ c. f (m * n + c))) (by_rows m n f)

-- rows of columns, and columns of rows
pub total_turned : (m n : ℕ) (f : ℕ → ℕ → ℕ) → total n (λ r. total m (f r)) ≡ total m (λ c. total n (λ r. f r c))
unfolding total
total_turned m zero f = sym (total_none m)
total_turned m (suc n) f = ap (λ (k : ℕ). k + total m (f n)) (total_turned m n f) ∙ sym (total_add m (λ c. total n (λ r. f r c)) (f n))

-- each term as often as its number says, counted from k
pub total_from : (n k : ℕ) (f : ℕ → ℕ) → total n (λ i. (k + i) * f i) ≡ k * total n f + total n (by_number f)
total_from n k f =
    total_same n (λ i. (k + i) * f i) (λ i. k * f i + by_number f i) (λ i h. add-mul k i (f i))
    ∙ total_add n (λ i. k * f i) (by_number f)
    ∙ ap (λ (t : ℕ). t + total n (by_number f)) (total_times n k f)

-- a column's terms, each m r + c + 1 times
pub column_twice : (m c n : ℕ) (f : ℕ → ℕ) → total n (λ r. suc (m * r + c) * f r) ≡ m * total n (by_number f) + (c * total n f + total n f)
unfolding total
column_twice m c zero f = omega arith
column_twice m c (suc n) f =
    let last : suc (m * n + c) * f n ≡ m * (n * f n) + suc c * f n =
    ap (λ (k : ℕ). k * f n) (sym (add-suc (m * n) c)) ∙ add-mul (m * n) (suc c) (f n) ∙ ap (λ (k : ℕ). k + suc c * f n) (mul_assoc m n (f n)) in
    omega (arith, column_twice m c n f, last, mul-add m (total n (by_number f)) (n * f n), mul-add (suc c) (total n f) (f n))

module _ (n : ℕ) (f : ℕ → ℕ) where
  -- terms r to n - 1 have been added up
  abbrev pub Added : ℕ → ℕ → Type 0
  Added r sum = sum + total r f ≡ total n f

  pub added_none : Added n 0
  added_none = zero-add (total n f)

  module _ {r : ℕ} (sum : ℕ) (s : Added r sum) where
    -- with the term that comes next
    added_next : 0 < r → Added (suc (r - 1)) sum
    added_next h = let e : r ≡ suc (r - 1) = omega arith in subst (λ (k : ℕ). Added k sum) e s

    pub added_one : (x : ℕ) → 0 < r → x ≡ f (r - 1) → Added (r - 1) (sum + x)
    unfolding total
    added_one x h e = omega (arith, added_next h, e)

    pub added_all : r ≡ 0 → sum ≡ total n f
    unfolding total
    added_all none = let all : Added 0 sum = subst (λ (k : ℕ). Added k sum) none s in omega (arith, all)

  -- and, each time before one more was added, the sum so far
  pub record Run (r sum weighted : ℕ) : Type 0 where
    pub sum_is : Added r sum
    pub weighted_is : weighted + r * sum + total r (by_number f) ≡ total n (by_number f)

  pub run_none : Run n 0 0
  run_none = record { sum_is = added_none; weighted_is = omega arith }

  module _ {r sum weighted : ℕ} (s : Run r sum weighted) where
    run_next : 0 < r → Run (suc (r - 1)) sum weighted
    run_next h = let e : r ≡ suc (r - 1) = omega arith in subst (λ (k : ℕ). Run k sum weighted) e s

    pub run_one : (x : ℕ) → 0 < r → x ≡ f (r - 1) → Run (r - 1) (sum + x) (weighted + sum)
    unfolding total
    run_one x h e =
        let times : (r - 1) * x ≡ (r - 1) * f (r - 1) = ap (λ (k : ℕ). (r - 1) * k) e in
        record { sum_is = added_one sum s.sum_is x h e; weighted_is = omega (arith, (run_next h).weighted_is, times, mul-add (r - 1) sum x) }

    pub run_most : 0 < r → weighted + sum ≤ total n (by_number f)
    run_most h = omega (arith, (run_next h).weighted_is)

    pub run_all : r ≡ 0 → (sum ≡ total n f) × (weighted ≡ total n (by_number f))
    unfolding total
    run_all none = let all : Run 0 sum weighted = subst (λ (k : ℕ). Run k sum weighted) none s in (added_all sum s.sum_is none, omega (arith, all.weighted_is))
