-- Laws of the lists' vocabulary: numbers below a bound, places and parts of a list, tests over it, maps and joins, two-byte numbers.
use Prim.Native.Nat.{ℕ, zero, suc, ◌+◌, ◌*◌, ◌/◌, ◌<◌}
use native.Mathlib.Nat.{zero-add, suc-add}
use native.Mathlib.Numerals.{add-one}
use mathlib.Core.Bool.{Bool, true, false, ◌&&◌, ◌||◌}
use mathlib.Core.Path.{◌≡◌, refl, sym, ap, ap₂, ◌∙◌, subst}
use mathlib.Core.Logic.{◌⊎◌, inl, inr}
use mathlib.Core.List.Memᴰ
use mathlib.Core.List.{List, [], ◌∷◌, ◌++◌, map, append_assoc, append-nil, Memᴰ}
use lib.ListN.{length, get_or, take, drop, length-append, get_or-append}
use lib.Seq.{get_or_at, take-nil}
use lib.Dec.{T}
use native.Mathlib.Omega.{arith}
use native.Mathlib.Decide.{ℕ_discrete}
use Rattle.model.specs.Lists.{below, given, every, any, flat_map, bit, number, numbers}
use Rattle.model.proofs.Booleans.{and_out, and_in, and_exchange, left_or, right_or, left_false, right_false}

pub length_below : (n : ℕ) → length (below n) ≡ n
length_below zero = refl
length_below (suc n) = omega (arith, length-append (below n) (n ∷ []), length_below n)

pub below_has : (n x : ℕ) → x < n → Memᴰ x (below n)
below_has zero x h = absurd (omega arith)
below_has (suc n) x h = go (ℕ_discrete x n) (below_has n x)
  where
    go : Dec (x ≡ n) → (x < n → Memᴰ x (below n)) → Memᴰ x (below n ++ (n ∷ []))
    go (yes e) r = Memᴰ.append_right (below n) (Memᴰ.head e)
    go (no f) r = Memᴰ.append_left (n ∷ []) (r (omega arith))

pub below_from : (n x : ℕ) → Memᴰ x (below n) → x < n
below_from zero x h = absurd (Memᴰ.not-nil h)
below_from (suc n) x h = go (Memᴰ.append_cases (below n) h) (below_from n x)
  where
    go : Memᴰ x (below n) ⊎ Memᴰ x (n ∷ []) → (Memᴰ x (below n) → x < n) → x < suc n
    go (inl k) r = let b = r k in omega arith
    go (inr k) r = let e = Memᴰ.eq_of_singleton k in omega arith

module _ {A : Type 0} where
  pub member_at : (xs : List A) (i : ℕ) (d : A) → i < length xs → Memᴰ (get_or xs i d) xs
  member_at [] i d h = absurd (omega arith)
  member_at (x ∷ xs) zero d h = Memᴰ.head refl
  member_at (x ∷ xs) (suc i) d h = Memᴰ.tail (member_at xs i d (omega arith))

  -- a part by its start and end, and by its start and length
  pub drop_take : (k n : ℕ) (l : List A) → drop k (take (k + n) l) ≡ take n (drop k l)
  drop_take zero n l = ap (λ (m : ℕ). take m l) (zero-add n)
  drop_take (suc k) n [] = ap (drop (suc k)) (take-nil (suc k + n)) ∙ sym (take-nil n)
  drop_take (suc k) n (x ∷ l) = ap (λ (m : ℕ). drop (suc k) (take m (x ∷ l))) (suc-add k n) ∙ drop_take k n l

  pub given_from : (b : Bool) (l : List A) {x : A} → Memᴰ x (given b l) → T b × Memᴰ x l
  given_from true l h = (tt, h)
  given_from false l h = absurd (Memᴰ.not-nil h)

  pub given_has : (b : Bool) (l : List A) {x : A} → T b → Memᴰ x l → Memᴰ x (given b l)
  given_has true l t h = h
  given_has false l t h = absurd t

  pub every_append : (f : A → Bool) (xs ys : List A) → every f (xs ++ ys) ≡ (every f xs && every f ys)
  every_append f [] ys = refl
  every_append f (x ∷ xs) ys = go (f x) (every_append f xs ys)
    where
      go : (b : Bool) → every f (xs ++ ys) ≡ (every f xs && every f ys) → (b && every f (xs ++ ys)) ≡ (b && every f xs && every f ys)
      go true e = e
      go false e = refl

  pub every_and : (f h : A → Bool) (xs : List A) → every (λ x. f x && h x) xs ≡ (every f xs && every h xs)
  every_and f h [] = refl
  every_and f h (x ∷ xs) = ap (λ (b : Bool). f x && h x && b) (every_and f h xs) ∙ and_exchange (f x) (h x) (every f xs) (every h xs)

  -- a test that follows from another at each member follows over the list
  pub every_map : (f h : A → Bool) (xs : List A) → ((x : A) → Memᴰ x xs → T (f x) → T (h x)) → T (every f xs) → T (every h xs)
  every_map f h [] i t = tt
  every_map f h (x ∷ xs) i t =
      let u = and_out (f x) (every f xs) t in
      and_in (h x) (every h xs) (i x (Memᴰ.head refl) u.0) (every_map f h xs (λ y m. i y (Memᴰ.tail m)) u.1)

  -- and so does one that follows from two
  pub every_both : (f h k : A → Bool) (xs : List A) → ((x : A) → Memᴰ x xs → T (f x) → T (h x) → T (k x)) → T (every f xs) → T (every h xs) → T (every k xs)
  every_both f h k [] i s t = tt
  every_both f h k (x ∷ xs) i s t =
      let u = and_out (f x) (every f xs) s in
      let v = and_out (h x) (every h xs) t in
      and_in (k x) (every k xs) (i x (Memᴰ.head refl) u.0 v.0) (every_both f h k xs (λ y m. i y (Memᴰ.tail m)) u.1 v.1)

  pub every_same : (f h : A → Bool) (xs : List A) → ((x : A) → Memᴰ x xs → f x ≡ h x) → every f xs ≡ every h xs
  every_same f h [] e = refl
  every_same f h (x ∷ xs) e = ap₂ (λ (a b : Bool). a && b) (e x (Memᴰ.head refl)) (every_same f h xs (λ y m. e y (Memᴰ.tail m)))

  pub every_at : (f : A → Bool) (xs : List A) {x : A} → Memᴰ x xs → T (every f xs) → T (f x)
  every_at f [] x4 t = elim x4 [ ]
  every_at f (y ∷ xs) (Memᴰ.head e) t = rw e (and_out (f y) (every f xs) t).0
  every_at f (y ∷ xs) (Memᴰ.tail m) t = every_at f xs m (and_out (f y) (every f xs) t).1

  -- one member that fails
  pub every_not : (f : A → Bool) (xs : List A) {x : A} → Memᴰ x xs → f x ≡ false → every f xs ≡ false
  every_not f [] x4 h = elim x4 [ ]
  every_not f (y ∷ xs) (Memᴰ.head e) h = left_false (f y) (every f xs) (ap f (sym e) ∙ h)
  every_not f (y ∷ xs) (Memᴰ.tail m) h = right_false (f y) (every f xs) (every_not f xs m h)

  pub every_in : (f : A → Bool) (xs : List A) → ((x : A) → Memᴰ x xs → T (f x)) → T (every f xs)
  every_in f [] i = tt
  every_in f (x ∷ xs) i = and_in (f x) (every f xs) (i x (Memᴰ.head refl)) (every_in f xs (λ y m. i y (Memᴰ.tail m)))

  -- a list that fails has a member that fails
  pub every_miss : (f : A → Bool) (xs : List A) → every f xs ≡ false → (x : A) × Memᴰ x xs × (f x ≡ false)
  every_miss f [] e = absurd (subst T e tt)
  every_miss f (x ∷ xs) e = go (f x) refl e (every_miss f xs)
    where
      go : (b : Bool) → f x ≡ b → (b && every f xs) ≡ false → (every f xs ≡ false → (y : A) × Memᴰ y xs × (f y ≡ false)) → (y : A) × Memᴰ y (x ∷ xs) × (f y ≡ false)
      go true h k r = let t = r k in (t.0, Memᴰ.tail t.1, t.2)
      go false h k r = (x, Memᴰ.head refl, h)

  pub any_from : (f : A → Bool) (xs : List A) → T (any f xs) → (x : A) × Memᴰ x xs × T (f x)
  any_from f [] t = absurd t
  any_from f (x ∷ xs) t = go (f x) refl t (any_from f xs)
    where
      go : (b : Bool) → f x ≡ b → T (b || any f xs) → (T (any f xs) → (y : A) × Memᴰ y xs × T (f y)) → (y : A) × Memᴰ y (x ∷ xs) × T (f y)
      go true h k r = (x, Memᴰ.head refl, rw h tt)
      go false h k r = let u = r k in (u.0, Memᴰ.tail u.1, u.2)

  pub any_more : (f : A → Bool) (xs : List A) (x : A) → any f (xs ++ (x ∷ [])) ≡ (any f xs || f x)
  any_more f [] x = or_false (f x)
    where
      or_false : (b : Bool) → (b || false) ≡ b
      or_false true = refl
      or_false false = refl
  any_more f (y ∷ xs) x = go (f y) (any_more f xs x)
    where
      go : (b : Bool) → any f (xs ++ (x ∷ [])) ≡ (any f xs || f x) → (b || any f (xs ++ (x ∷ []))) ≡ (b || any f xs || f x)
      go true e = refl
      go false e = e

  pub any_has : (f : A → Bool) (xs : List A) {x : A} → Memᴰ x xs → T (f x) → T (any f xs)
  any_has f [] x4 t = elim x4 [ ]
  any_has f (y ∷ xs) (Memᴰ.head e) t = left_or (f y) (any f xs) (subst (λ z. T (f z)) e t)
  any_has f (y ∷ xs) (Memᴰ.tail m) t = right_or (f y) (any f xs) (any_has f xs m t)

module _ {A B : Type 0} where
  pub map_from : (f : A → B) (xs : List A) {b : B} → Memᴰ b (map f xs) → (x : A) × Memᴰ x xs × (b ≡ f x)
  map_from f [] h = absurd (Memᴰ.not-nil h)
  map_from f (x ∷ xs) (Memᴰ.head e) = (x, Memᴰ.head refl, e)
  map_from f (x ∷ xs) (Memᴰ.tail h) = let t = map_from f xs h in (t.0, Memᴰ.tail t.1, t.2)

  pub map_append : (f : A → B) (xs ys : List A) → map f (xs ++ ys) ≡ map f xs ++ map f ys
  map_append f [] ys = refl
  map_append f (x ∷ xs) ys = ap {B = List B} (λ l. f x ∷ l) (map_append f xs ys)

  pub map_same : (f h : A → B) (xs : List A) → ((x : A) → Memᴰ x xs → f x ≡ h x) → map f xs ≡ map h xs
  map_same f h [] e = refl
  map_same f h (x ∷ xs) e = ap₂ {C = List B} (λ y l. y ∷ l) (e x (Memᴰ.head refl)) (map_same f h xs (λ y m. e y (Memᴰ.tail m)))

  pub flat_map_has : (f : A → List B) (xs : List A) {x : A} {b : B} → Memᴰ x xs → Memᴰ b (f x) → Memᴰ b (flat_map f xs)
  flat_map_has f [] {b = b} x4 k = elim x4 [ ]
  flat_map_has f (y ∷ xs) {b} (Memᴰ.head e) k = Memᴰ.append_left (flat_map f xs) (subst (λ z. Memᴰ b (f z)) e k)
  flat_map_has f (y ∷ xs) {b} (Memᴰ.tail h) k = Memᴰ.append_right (f y) (flat_map_has f xs h k)

  pub flat_map_from : (f : A → List B) (xs : List A) {b : B} → Memᴰ b (flat_map f xs) → (x : A) × Memᴰ x xs × Memᴰ b (f x)
  flat_map_from f [] h = absurd (Memᴰ.not-nil h)
  flat_map_from f (x ∷ xs) {b} h = go (flat_map_from f xs) (Memᴰ.append_cases (f x) h)
    where
      go : (Memᴰ b (flat_map f xs) → (y : A) × Memᴰ y xs × Memᴰ b (f y)) → Memᴰ b (f x) ⊎ Memᴰ b (flat_map f xs) → (y : A) × Memᴰ y (x ∷ xs) × Memᴰ b (f y)
      go r (inl k) = (x, Memᴰ.head refl, k)
      go r (inr k) = let t = r k in (t.0, Memᴰ.tail t.1, t.2)

  pub flat_map_append : (f : A → List B) (xs ys : List A) → flat_map f (xs ++ ys) ≡ flat_map f xs ++ flat_map f ys
  flat_map_append f [] ys = refl
  flat_map_append f (x ∷ xs) ys = ap (λ (l : List B). f x ++ l) (flat_map_append f xs ys) ∙ sym (append_assoc (f x) (flat_map f xs) (flat_map f ys))

-- a loop's next round
pub flat_map_below : {B : Type 0} (f : ℕ → List B) (n : ℕ) → flat_map f (below (suc n)) ≡ flat_map f (below n) ++ f n
flat_map_below {B} f n = flat_map_append f (below n) (n ∷ []) ∙ ap (λ (l : List B). flat_map f (below n) ++ l) (append-nil (f n))

pub map_below : {B : Type 0} (f : ℕ → B) (n : ℕ) → map f (below (suc n)) ≡ map f (below n) ++ (f n ∷ [])
map_below f n = map_append f (below n) (n ∷ [])

pub length_map_below : {B : Type 0} (f : ℕ → B) (n : ℕ) → length (map f (below n)) ≡ n
length_map_below f zero = refl
length_map_below f (suc n) = ap length (map_below f n) ∙ omega (arith, length-append (map f (below n)) (f n ∷ []), length_map_below f n)

pub get_d_map_below : {B : Type 0} (f : ℕ → B) (n i : ℕ) (d : B) → i < n → get_or (map f (below n)) i d ≡ f i
get_d_map_below f zero i d h = absurd (omega arith)
get_d_map_below {B} f (suc n) i d h = ap (λ (l : List B). get_or l i d) (map_below f n) ∙ go (ℕ_discrete i n) (get_d_map_below f n i d)
  where
    go : Dec (i ≡ n) → (i < n → get_or (map f (below n)) i d ≡ f i) → get_or (map f (below n) ++ (f n ∷ [])) i d ≡ f i
    go (yes e) r = rw e (get_or_at (map f (below n)) (f n) [] d n (length_map_below f n))
    go (no k) r =
        let l : i < length (map f (below n)) = omega (arith, length_map_below f n) in
        get_or-append (map f (below n)) (f n ∷ []) d i l ∙ r (omega arith)

pub get_d_below : (n i : ℕ) → i < n → get_or (below n) i 0 ≡ i
get_d_below n i h = ap (λ (l : List ℕ). get_or l i 0) (sym (map_id (below n))) ∙ get_d_map_below (λ i. i) n i 0 h
  where
    map_id : (xs : List ℕ) → map (λ i. i) xs ≡ xs
    map_id [] = refl
    map_id (x ∷ xs) = ap {B = List ℕ} (λ l. x ∷ l) (map_id xs)

-- two bytes to a number
module _ (bs : List ℕ) where
  pub length_numbers : length (numbers bs) ≡ length bs / 2
  length_numbers = length_map_below (λ i. number bs (2 * i)) (length bs / 2)

  pub number_in : (i : ℕ) → i < length bs / 2 → get_or (numbers bs) i 0 ≡ number bs (2 * i)
  number_in i h = get_d_map_below (λ i. number bs (2 * i)) (length bs / 2) i 0 h

-- a loop over the numbers below a bound that tests each
module _ (f : ℕ → Bool) where
  pub every_none : every f (below 0) ≡ true
  every_none = refl

  pub every_more : (k : ℕ) → every f (below k) ≡ true → f k ≡ true → every f (below (k + 1)) ≡ true
  every_more k e h = ap (λ (n : ℕ). every f (below n)) (add-one k) ∙ every_append f (below k) (k ∷ []) ∙ rw (e, h) refl

  pub every_fails : (n k : ℕ) → k < n → f k ≡ false → every f (below n) ≡ false
  every_fails n k h e = every_not f (below n) (below_has n k h) e

-- 0 has no binary digit that is 1
pub bit_none : (i : ℕ) → bit 0 i ≡ false
bit_none zero = refl
bit_none (suc i) = bit_none i
