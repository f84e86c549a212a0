-- Sets of lexicons as eight bytes, and the one member of a set that has no more.
use Prim.Native.Nat.{ℕ, zero, suc, ◌+◌, ◌*◌, ◌/◌, ◌%◌, ◌<◌, ◌≤◌}
use native.Mathlib.Omega.{arith}
use native.Mathlib.Decide.{ℕ_discrete}
use mathlib.Core.Bool.{Bool, true, false, ◌||◌, cond}
use mathlib.Core.Path.{◌≡◌, refl, sym, ap, ◌∙◌, subst}
use mathlib.Core.List.{List, [], ◌∷◌, ◌++◌}
use lib.Dec.{T, eqb}
use borrow.Author.Tests.{eq-eqb, ne_eqb}
use Rattle.model.specs.Lists.{below, any, count, first, bit}
use Rattle.model.specs.RuleTables.{in_set}
use Rattle.model.proofs.Booleans.{true_of, of_true, false_of}
use Rattle.model.proofs.Lists.{get_d_map_below, below_from}
use mathlib.Core.List.{Memᴰ}
use Rattle.conversion.specs.Conversion.{digits_from, way_bytes}

-- the lowest digit of a number that is made of it and twice another, and those above it
digit_here : (b : Bool) (m : ℕ) → bit (cond b 1 0 + 2 * m) 0 ≡ b
digit_here true m = eq-eqb ((1 + 2 * m) % 2) 1 (omega arith)
digit_here false m = ne_eqb ((0 + 2 * m) % 2) 1 (λ e. omega arith)

digit_next : (b : Bool) (m i : ℕ) → bit (cond b 1 0 + 2 * m) (suc i) ≡ bit m i
digit_next true m i = let e : (1 + 2 * m) / 2 ≡ m = omega arith in ap (λ (n : ℕ). bit n i) e
digit_next false m i = let e : (0 + 2 * m) / 2 ≡ m = omega arith in ap (λ (n : ℕ). bit n i) e

digits : (f : ℕ → Bool) (n i b : ℕ) → b < n → bit (digits_from f n i) b ≡ f (i + b)
digits f zero i b l = absurd (omega arith)
digits f (suc n) i zero l = digit_here (f i) (digits_from f n (suc i)) ∙ (let e : i ≡ i + 0 = omega arith in ap f e)
digits f (suc n) i (suc b) l =
    digit_next (f i) (digits_from f n (suc i)) b ∙ digits f n (suc i) b (omega arith) ∙ (let e : suc i + b ≡ i + suc b = omega arith in ap f e)

-- a bit of the eight bytes
pub way_bit : (f : ℕ → Bool) (x : ℕ) → x < 64 → in_set (way_bytes f) x ≡ f x
unfolding in_set way_bytes
way_bit f x l =
    let e : 8 * (x / 8) + x % 8 ≡ x = omega arith in
    ap (λ (n : ℕ). bit n (x % 8)) (get_d_map_below (λ j. digits_from f 8 (8 * j)) 8 (x / 8) 0 (omega arith)) ∙ digits f 8 (8 * (x / 8)) (x % 8) (omega arith) ∙ ap f e

-- how many pass, one number more
pub count_more : (f : ℕ → Bool) (xs : List ℕ) (n : ℕ) → count f (xs ++ (n ∷ [])) ≡ count f xs + cond (f n) 1 0
count_more f [] n = omega arith
count_more f (x ∷ xs) n = omega (arith, count_more f xs n)

module _ (f : ℕ → Bool) where
  one_of : (b : Bool) → T b → ◌≡◌ {A = ℕ} (cond b 1 0) 1
  one_of true t = refl
  one_of false t = absurd t

  pub count_none : (n : ℕ) → count f (below n) ≡ 0 → (x : ℕ) → x < n → f x ≡ false
  count_none zero e x l = absurd (omega arith)
  count_none (suc n) e x l = go (ℕ_discrete x n) (count_none n)
    where
      go : Dec (x ≡ n) → (count f (below n) ≡ 0 → (x : ℕ) → x < n → f x ≡ false) → f x ≡ false
      go (yes d) r = ap f d ∙ false_of (f n) (λ t. let c = one_of (f n) t in omega (arith, count_more f (below n) n))
      go (no d) r = r (omega (arith, count_more f (below n) n)) x (omega arith)

  -- where one passes and no other does
  pub count_one : (n : ℕ) → count f (below n) ≤ 1 → (y : ℕ) → y < n → T (f y) → (x : ℕ) → x < n → f x ≡ eqb y x
  count_one zero e y k t x l = absurd (omega arith)
  count_one (suc n) e y k t x l = go (ℕ_discrete y n) (ℕ_discrete x n) (count_one n)
    where
      go : Dec (y ≡ n) → Dec (x ≡ n) → (count f (below n) ≤ 1 → (y : ℕ) → y < n → T (f y) → (x : ℕ) → x < n → f x ≡ eqb y x) → f x ≡ eqb y x
      go (yes a) (yes b) r = true_of (f x) (subst (λ (z : ℕ). T (f z)) (a ∙ sym b) t) ∙ sym (eq-eqb y x (a ∙ sym b))
      go (yes a) (no b) r =
          let c = one_of (f n) (subst (λ (z : ℕ). T (f z)) a t) in
          count_none n (omega (arith, count_more f (below n) n)) x (omega arith) ∙ sym (ne_eqb y x (λ d. b (sym d ∙ a)))
      go (no a) (yes b) r =
          ap f b ∙ false_of (f n) (λ s. let c = one_of (f n) s in not_there (count_none n (omega (arith, count_more f (below n) n)) y (omega arith))) ∙ sym (ne_eqb y x (λ d. a (d ∙ b)))
        where
          not_there : f y ≡ false → ⊥
          not_there z = subst T z t
      go (no a) (no b) r = r (omega (arith, count_more f (below n) n)) y (omega arith) t x (omega arith)

  -- the first that passes does, where any does
  first_passes : (xs : List ℕ) → T (any f xs) → T (f (first f xs 0)) × Memᴰ (first f xs 0) xs
  first_passes [] t = absurd t
  first_passes (x ∷ xs) t = go (f x) refl t (first_passes xs)
    where
      go : (b : Bool) → f x ≡ b → T (b || any f xs) → (T (any f xs) → T (f (first f xs 0)) × Memᴰ (first f xs 0) xs)
          → T (f (cond b x (first f xs 0))) × Memᴰ (cond b x (first f xs 0)) (x ∷ xs)
      go true e t r = (of_true (f x) e, Memᴰ.head refl)
      go false e t r = let u = r t in (u.0, Memᴰ.tail u.1)

  pub first_below : (n : ℕ) → T (any f (below n)) → T (f (first f (below n) 0)) × (first f (below n) 0 < n)
  first_below n t = let u = first_passes (below n) t in (u.0, below_from n (first f (below n) 0) u.1)

-- how many pass, where others pass alike
pub count_alike : (f h : ℕ → Bool) (n : ℕ) → ((x : ℕ) → x < n → f x ≡ h x) → count f (below n) ≡ count h (below n)
count_alike f h zero e = refl
count_alike f h (suc n) e =
    let r = count_alike f h n (λ x l. e x (omega arith)) in
    let d : ◌≡◌ {A = ℕ} (cond (f n) 1 0) (cond (h n) 1 0) = ap (λ (b : Bool). cond b 1 0) (e n (omega arith)) in
    omega (arith, count_more f (below n) n, count_more h (below n) n)

-- none, and one
pub none_count : (f : ℕ → Bool) (n : ℕ) → ((x : ℕ) → x < n → f x ≡ false) → count f (below n) ≡ 0
none_count f zero e = refl
none_count f (suc n) e =
    let d : ◌≡◌ {A = ℕ} (cond (f n) 1 0) 0 = ap (λ (b : Bool). cond b 1 0) (e n (omega arith)) in
    omega (arith, count_more f (below n) n, none_count f n (λ x l. e x (omega arith)))

pub one_count : (f : ℕ → Bool) (c n : ℕ) → ((x : ℕ) → T (f x) → c ≡ x) → count f (below n) ≤ 1
one_count f c zero e = omega arith
one_count f c (suc n) e = go (ℕ_discrete c n) (one_count f c n e)
  where
    few : (b : Bool) → cond b 1 0 ≤ 1
    few true = omega arith
    few false = omega arith

    go : Dec (c ≡ n) → count f (below n) ≤ 1 → count f (below (suc n)) ≤ 1
    go (yes d) r = omega (arith, count_more f (below n) n, few (f n), none_count f n (λ x l. false_of (f x) (λ t. let k = e x t in omega arith)))
    go (no d) r =
        let z : ◌≡◌ {A = ℕ} (cond (f n) 1 0) 0 = ap (λ (b : Bool). cond b 1 0) (false_of (f n) (λ t. d (e n t))) in
        omega (arith, count_more f (below n) n)
