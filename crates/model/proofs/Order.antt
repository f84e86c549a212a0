-- Step order: it is strict, and an ascending list is determined by its members.
use Prim.Native.Nat.{ℕ, zero, suc, ◌<◌}
use mathlib.Core.Path.{◌≡◌, refl, sym, ap, ◌∙◌, subst}
use mathlib.Core.Logic.{◌⊎◌, inl, inr}
use mathlib.Core.List.Memᴰ
use mathlib.Core.List.{List, [], ◌∷◌, ◌++◌, map, Memᴰ}
use native.Mathlib.Omega.{arith}
use Rattle.model.specs.Lists.{below, flat_map}
use Rattle.model.specs.Readings.{Before, Ascending}
use Rattle.model.proofs.Lists.{below_from, map_from, flat_map_from, flat_map_below}

-- no member stands twice
abbrev pub Once : {A : Type 0} → List A → Type 0
Once [] = Unit {0}
Once (a ∷ l) = (Memᴰ a l → ⊥) × Once l

pub before_asym : (l m : List ℕ) → Before l m → Before m l → ⊥
before_asym l [] h k = h
before_asym [] (y ∷ ys) h k = k
before_asym (x ∷ xs) (y ∷ ys) (inl h) (inl k) = omega arith
before_asym (x ∷ xs) (y ∷ ys) (inl h) (inr k) = omega arith
before_asym (x ∷ xs) (y ∷ ys) (inr h) (inl k) = omega arith
before_asym (x ∷ xs) (y ∷ ys) (inr h) (inr k) = before_asym xs ys h.1 k.1

pub before_irrefl : (l : List ℕ) → Before l l → ⊥
before_irrefl l h = before_asym l l h h

-- ascending lists: with a number in front, joined, and drawn from the numbers below a bound
pub ascending_cons : (n : ℕ) (ls : List (List ℕ)) → Ascending ls → Ascending (map (λ l. n ∷ l) ls)
ascending_cons n [] a = tt
ascending_cons n (l ∷ ls) a = (λ m k. let t = map_from (λ l. n ∷ l) ls k in rw t.2 (inr (refl, a.0 t.0 t.1)), ascending_cons n ls a.1)

pub ascending_append : (ls ms : List (List ℕ)) → Ascending ls → Ascending ms → ((l m : List ℕ) → Memᴰ l ls → Memᴰ m ms → Before l m) → Ascending (ls ++ ms)
ascending_append [] ms a b f = b
ascending_append (l ∷ ls) ms a b f = (λ m k. later m (Memᴰ.append_cases ls k), ascending_append ls ms a.1 b (λ l m h k. f l m (Memᴰ.tail h) k))
  where
    later : (m : List ℕ) → Memᴰ m ls ⊎ Memᴰ m ms → Before l m
    later m (inl k) = a.0 m k
    later m (inr k) = f l m (Memᴰ.head refl) k

-- the lists got from n all begin with n
pub ascending_below : (f : ℕ → List (List ℕ)) → ((n : ℕ) → Ascending (f n)) → ((n : ℕ) (l : List ℕ) → Memᴰ l (f n) → (m : List ℕ) × (l ≡ n ∷ m)) → (n : ℕ) → Ascending (flat_map f (below n))
ascending_below f up heads zero = tt
ascending_below f up heads (suc n) = subst Ascending (sym (flat_map_below f n)) (ascending_append (flat_map f (below n)) (f n) (ascending_below f up heads n) (up n) apart)
  where
    apart : (l m : List ℕ) → Memᴰ l (flat_map f (below n)) → Memᴰ m (f n) → Before l m
    apart l m h k =
        let t = flat_map_from f (below n) h in
        let x = heads t.0 l t.2 in
        let y = heads n m k in
        let u : t.0 < n = below_from n t.0 t.1 in
        rw (x.1, y.1) (inl u)

-- ascending keys and the same members: the same list
module _ {A : Type 0} (key : A → List ℕ) where
  pub ascending_once : (l : List A) → Ascending (map key l) → Once l
  ascending_once [] a = tt
  ascending_once (x ∷ l) a = (λ h. before_irrefl (key x) (a.0 (key x) (Memᴰ.map key h)), ascending_once l a.1)

  abbrev pub Same : List A → List A → Type 0
  Same l m = ((x : A) → Memᴰ x l → Memᴰ x m) × ((x : A) → Memᴰ x m → Memᴰ x l)

  same_head : (x y : A) (l m : List A) → Ascending (map key (x ∷ l)) → Ascending (map key (y ∷ m)) → Same (x ∷ l) (y ∷ m) → x ≡ y
  same_head x y l m a b s = go (Memᴰ.cases_cons (s.0 x (Memᴰ.head refl))) (Memᴰ.cases_cons (s.1 y (Memᴰ.head refl)))
    where
      go : (x ≡ y) ⊎ Memᴰ x m → (y ≡ x) ⊎ Memᴰ y l → x ≡ y
      go (inl e) k = e
      go (inr h) (inl e) = sym e
      go (inr h) (inr k) = absurd (before_asym (key x) (key y) (a.0 (key y) (Memᴰ.map key k)) (b.0 (key x) (Memᴰ.map key h)))

  same_tail : (x y z : A) (l m : List A) → x ≡ y → Ascending (map key (x ∷ l)) → (Memᴰ z (x ∷ l) → Memᴰ z (y ∷ m)) → Memᴰ z l → Memᴰ z m
  same_tail x y z l m e a s h = go (Memᴰ.cases_cons (s (Memᴰ.tail h)))
    where
      go : (z ≡ y) ⊎ Memᴰ z m → Memᴰ z m
      go (inl d) = absurd (before_irrefl (key x) (a.0 (key x) (Memᴰ.map key (Memᴰ.cast (e ∙ sym d) h))))
      go (inr k) = k

  pub ascending_unique : (l m : List A) → Ascending (map key l) → Ascending (map key m) → Same l m → l ≡ m
  ascending_unique [] [] a b s = refl
  ascending_unique [] (y ∷ m) a b s = absurd (Memᴰ.not-nil (s.1 y (Memᴰ.head refl)))
  ascending_unique (x ∷ l) [] a b s = absurd (Memᴰ.not-nil (s.0 x (Memᴰ.head refl)))
  ascending_unique (x ∷ l) (y ∷ m) a b s =
      let e = same_head x y l m a b s in
      let t = ascending_unique l m a.1 b.1 (λ z. same_tail x y z l m e a (s.0 z), λ z. same_tail y x z m l (sym e) b (s.1 z)) in
      cc
