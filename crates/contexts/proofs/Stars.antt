-- A star after a star adds nothing.
use Prim.Native.Nat.{ℕ, zero, suc}
use mathlib.Core.Bool.{Bool, true, false}
use mathlib.Core.Path.{◌≡◌, refl, sym, ap, ◌∙◌, fun_ext}
use mathlib.Core.List.{List, [], ◌++◌, append_assoc, append-nil}
use lib.Dec.{T}
use Rattle.contexts.specs.Context.{Context, star}
use Rattle.contexts.specs.Meaning.{Times, Runs, Places, ends}
use Rattle.contexts.specs.Fuel.{starred}
use Rattle.contexts.proofs.Places.{Within, places_iff}

pub same_test : (a b : Bool) → (T a → T b) → (T b → T a) → a ≡ b
same_test true true f g = refl
same_test true false f g = absurd (f tt)
same_test false true f g = absurd (g tt)
same_test false false f g = refl

module _ (P : List ℕ → Type 0) where
  -- runs one after the other are runs
  times_append : (n m : ℕ) (u v : List ℕ) → Times P n u → Times P m v → (k : ℕ) × Times P k (u ++ v)
  times_append zero m u v s t = (m, rw s t)
  times_append (suc n) m u v s t =
      let r = times_append n m s.1 v s.4 t in
      (suc r.0, (s.0, s.1 ++ v, ap (λ (l : List ℕ). l ++ v) s.2 ∙ append_assoc s.0 s.1 v, s.3, r.1))

  flatten : (n : ℕ) (l : List ℕ) → Times (λ l. (k : ℕ) × Times P k l) n l → (k : ℕ) × Times P k l
  flatten zero l t = (0, t)
  flatten (suc n) l t =
      let r = flatten n t.1 t.4 in
      rw t.2 (times_append t.3.0 r.0 t.0 t.1 t.3.1 r.1)

  once : (l : List ℕ) → (k : ℕ) × Times P k l → (n : ℕ) × Times (λ l. (k : ℕ) × Times P k l) n l
  once l t = (1, (l, [], sym (append-nil l), t, refl))

module _ (s : List ℕ) (c : Context) (p : Places) (w : Within s p) where
  star_star : ends s (star (star c)) p ≡ ends s (star c) p
  star_star = fun_ext λ k.
      let a = places_iff s (star (star c)) p w k in
      let b = places_iff s (star c) p w k in
      same_test (ends s (star (star c)) p k) (ends s (star c) p k)
      (λ t. let r = a.0 t in b.1 (r.0, r.1, r.2, r.3, flatten (Runs c) r.4.0 _ r.4.1))
      (λ t. let r = b.0 t in a.1 (r.0, r.1, r.2, r.3, once (Runs c) _ r.4))

pub star_stars : (s : List ℕ) (n : ℕ) (c : Context) (p : Places) → Within s p → ends s (starred (suc n) c) p ≡ ends s (star c) p
star_stars s zero c p w = refl
star_stars s (suc n) c p w = star_star s (starred n c) p w ∙ star_stars s n c p w

-- the places after are places
pub ends_within : (s : List ℕ) (c : Context) (p : Places) → Within s p → Within s (ends s c p)
ends_within s c p w k t = ((places_iff s c p w k).0 t).3
