-- The walk lists all that the machine accepts, nothing else, each once, in step order.
use Prim.Native.Nat.{ℕ, zero, suc, ◌<◌, ◌≤◌}
use mathlib.Core.Bool.{Bool, true, false}
use mathlib.Core.Path.{◌≡◌, refl}
use mathlib.Core.Logic.{◌⊎◌, inl, inr}
use mathlib.Core.List.Memᴰ
use mathlib.Core.List.{List, [], ◌∷◌, ◌++◌, map, Memᴰ}
use lib.ListN.{length}
use lib.Dec.{T}
use native.Mathlib.Omega.{arith}
use Rattle.model.specs.Lists.{below, given, flat_map}
use Rattle.model.specs.Readings.{Before, Ascending}
use Rattle.model.specs.Walk.{Machine, Accepts, walk}
use Rattle.model.proofs.Lists.{below_has, below_from, given_from, given_has, map_from, flat_map_has, flat_map_from}
use Rattle.model.proofs.Order.{ascending_cons, ascending_append, ascending_below}

-- the walk's two parts: the end, and what begins with n
abbrev pub end : Bool → List (List ℕ)
end b = given b ([] ∷ [])

abbrev pub begin : Bool → ℕ → List (List ℕ) → List (List ℕ)
begin b n ls = given b (map (λ l. n ∷ l) ls)

end_from : (b : Bool) (l : List ℕ) → Memᴰ l (end b) → T b × (l ≡ [])
end_from b l h = let t = given_from b ([] ∷ []) h in (t.0, Memᴰ.eq_of_singleton t.1)

end_ascending : (b : Bool) → Ascending (end b)
end_ascending true = (λ m h. absurd (Memᴰ.not-nil h), tt)
end_ascending false = tt

begin_from : (b : Bool) (n : ℕ) (ls : List (List ℕ)) (l : List ℕ) → Memᴰ l (begin b n ls) → (m : List ℕ) × (l ≡ n ∷ m) × T b × Memᴰ m ls
begin_from b n ls l h =
    let t = given_from b (map (λ l. n ∷ l) ls) h in
    let u = map_from (λ l. n ∷ l) ls t.1 in
    (u.0, u.2, t.0, u.1)

begin_ascending : (b : Bool) (n : ℕ) (ls : List (List ℕ)) → Ascending ls → Ascending (begin b n ls)
begin_ascending true n ls a = ascending_cons n ls a
begin_ascending false n ls a = tt

module _ {S : Type 0} (m : Machine S) where
  -- what is listed at s of what begins with n
  abbrev pub branch : ℕ → S → ℕ → List (List ℕ)
  branch k s n = begin (m.may s n) n (walk m k (m.go s n))

  branch_heads : (k : ℕ) (s : S) (n : ℕ) (l : List ℕ) → Memᴰ l (branch k s n) → (r : List ℕ) × (l ≡ n ∷ r)
  branch_heads k s n l h = let t = begin_from (m.may s n) n (walk m k (m.go s n)) l h in (t.0, t.1)

  pub walk_ascending : (k : ℕ) (s : S) → Ascending (walk m k s)
  unfolding walk
  walk_ascending zero s = end_ascending (m.ends s)
  walk_ascending (suc k) s =
      ascending_append (end (m.ends s)) (flat_map (branch k s) (below (m.count s))) (end_ascending (m.ends s))
      (ascending_below (branch k s) (λ n. begin_ascending (m.may s n) n (walk m k (m.go s n)) (walk_ascending k (m.go s n))) (branch_heads k s) (m.count s)) first
    where
      first : (l r : List ℕ) → Memᴰ l (end (m.ends s)) → Memᴰ r (flat_map (branch k s) (below (m.count s))) → Before l r
      first l r h q =
          let t = flat_map_from (branch k s) (below (m.count s)) q in
          rw ((end_from (m.ends s) l h).1, (branch_heads k s t.0 r t.2).1) tt

  pub walk_has : (k : ℕ) (s : S) (l : List ℕ) → Accepts m s l → length l ≤ k → Memᴰ l (walk m k s)
  unfolding walk
  walk_has zero s [] a h = given_has (m.ends s) ([] ∷ []) a (Memᴰ.head refl)
  walk_has zero s (n ∷ l) a h = absurd (omega arith)
  walk_has (suc k) s [] a h = Memᴰ.append_left (flat_map (branch k s) (below (m.count s))) (given_has (m.ends s) ([] ∷ []) a (Memᴰ.head refl))
  walk_has (suc k) s (n ∷ l) a h =
      Memᴰ.append_right (end (m.ends s)) (flat_map_has (branch k s) (below (m.count s)) (below_has (m.count s) n a.0)
      (given_has (m.may s n) (map (λ l. n ∷ l) (walk m k (m.go s n))) a.1 (Memᴰ.map (λ l. n ∷ l) (walk_has k (m.go s n) l a.2 (omega arith)))))

  pub walk_from : (k : ℕ) (s : S) (l : List ℕ) → Memᴰ l (walk m k s) → Accepts m s l
  unfolding walk
  walk_from zero s l h = let t = end_from (m.ends s) l h in rw t.1 t.0
  walk_from (suc k) s l h = go (walk_from k) (Memᴰ.append_cases (end (m.ends s)) h)
    where
      go : ((s : S) (l : List ℕ) → Memᴰ l (walk m k s) → Accepts m s l) → Memᴰ l (end (m.ends s)) ⊎ Memᴰ l (flat_map (branch k s) (below (m.count s))) → Accepts m s l
      go r (inl q) = let t = end_from (m.ends s) l q in rw t.1 t.0
      go r (inr q) =
          let t = flat_map_from (branch k s) (below (m.count s)) q in
          let u = begin_from (m.may s t.0) t.0 (walk m k (m.go s t.0)) l t.2 in
          rw u.1 (below_from (m.count s) t.0 t.1, u.2, r (m.go s t.0) u.0 u.3)
