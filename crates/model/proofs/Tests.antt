-- Tests one after the other: what they say together, and the number of the first that fails.
use Prim.Native.Nat.{ℕ}
use native.Mathlib.Omega.{arith}
use mathlib.Core.Bool.{Bool, true, false}
use mathlib.Core.Path.{◌≡◌, refl, subst}
use mathlib.Core.Logic.{◌↔◌}
use mathlib.Core.List.{List, [], ◌∷◌, ◌++◌}
use lib.Dec.{T}
use Rattle.model.specs.Lists.{every}
use Rattle.model.specs.Refusals.{Verdict, accepted, refused, unless, first_failing}
use Rattle.model.proofs.Booleans.{and_out}

pub clash : {A : Type 0} → ◌≡◌ {A = ℕ} 0 1 → A
clash z = absurd (omega arith)

-- a test that is passed, and those after it
pub passed : (b : Bool) (k : ℕ) (v : Verdict) → unless b k v ≡ accepted → (b ≡ true) × (v ≡ accepted)
passed true k v e = (refl, e)
passed false k v e = clash (cc)

-- all pass when those of each part do
pub tests_append : (ts us : List (ℕ × Bool)) → (first_failing (ts ++ us) ≡ accepted) ↔ ((first_failing ts ≡ accepted) × (first_failing us ≡ accepted))
tests_append [] us = (λ e. (refl, e), λ e. e.1)
tests_append (t ∷ ts) us = go t.1 (tests_append ts us)
  where
    go : (b : Bool) → (first_failing (ts ++ us) ≡ accepted) ↔ ((first_failing ts ≡ accepted) × (first_failing us ≡ accepted))
        → (unless b t.0 (first_failing (ts ++ us)) ≡ accepted) ↔ ((unless b t.0 (first_failing ts) ≡ accepted) × (first_failing us ≡ accepted))
    go true r = r
    go false r = (λ e. clash (cc), λ e. let f = e.0 in clash (cc))

-- tests before others: their refusal is that of all, and where they accept the others decide
pub tests_refused : (ts us : List (ℕ × Bool)) (k : ℕ) → first_failing ts ≡ refused k → first_failing (ts ++ us) ≡ refused k
tests_refused [] us k f = clash (cc)
tests_refused (t ∷ ts) us k f = go t.1 (tests_refused ts us k) f
  where
    go : (b : Bool) → (first_failing ts ≡ refused k → first_failing (ts ++ us) ≡ refused k) → unless b t.0 (first_failing ts) ≡ refused k → unless b t.0 (first_failing (ts ++ us)) ≡ refused k
    go true r f = r f
    go false r f = f

pub tests_accepted : (ts us : List (ℕ × Bool)) → first_failing ts ≡ accepted → first_failing (ts ++ us) ≡ first_failing us
tests_accepted [] us f = refl
tests_accepted (t ∷ ts) us f = go t.1 (tests_accepted ts us) f
  where
    go : (b : Bool) → (first_failing ts ≡ accepted → first_failing (ts ++ us) ≡ first_failing us) → unless b t.0 (first_failing ts) ≡ accepted → unless b t.0 (first_failing (ts ++ us)) ≡ first_failing us
    go true r f = r f
    go false r f = clash (cc)

-- the number told is that of a test
pub tests_number : (is : ℕ → Bool) (ts : List (ℕ × Bool)) (k : ℕ) → T (every (λ t. is t.0) ts) → first_failing ts ≡ refused k → T (is k)
tests_number is [] k t e = clash (cc)
tests_number is (x ∷ ts) k t e = let u = and_out (is x.0) (every (λ t. is t.0) ts) t in go x.1 e u.0 (tests_number is ts k u.1)
  where
    go : (b : Bool) → unless b x.0 (first_failing ts) ≡ refused k → T (is x.0) → (first_failing ts ≡ refused k → T (is k)) → T (is k)
    go true e t r = r e
    go false e t r = let m : x.0 ≡ k = cc in subst (λ (n : ℕ). T (is n)) m t
