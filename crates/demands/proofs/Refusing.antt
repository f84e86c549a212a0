-- The first test that fails, in words, and what follows for a call whose reply goes by it.
use Prim.Native.Nat.{ℕ}
use mathlib.Core.Bool.{Bool, true, false, ◌&&◌}
use mathlib.Core.Path.{◌≡◌, refl, sym, ap, ◌∙◌, subst}
use mathlib.Core.Logic.{◌↔◌, ◌⊎◌, inl, inr}
use mathlib.Core.List.{List, [], ◌∷◌, ◌++◌}
use lib.Dec.{T}
use Rattle.model.specs.Lists.{every}
use Rattle.model.specs.Refusals.{Verdict, refused, unless, first_failing}
use Rattle.model.proofs.Tests.{clash, tests_number}
use Rattle.demands.specs.Words.{in_table, FirstFails}

fails_from : (tests : List (ℕ × Bool)) (k : ℕ) → first_failing tests ≡ refused k → FirstFails k tests
fails_from [] k e = clash (cc)
fails_from (t ∷ tests) k e = go t.0 t.1 e (fails_from tests k)
  where
    go : (n : ℕ) (b : Bool) → unless b n (first_failing tests) ≡ refused k → (first_failing tests ≡ refused k → FirstFails k tests) → FirstFails k ((n, b) ∷ tests)
    go n true e r = let f = r e in record { earlier = (n, true) ∷ f.earlier; later = f.later; in_turn = ap {B = List (ℕ × Bool)} (λ l. (n, true) ∷ l) f.in_turn; earlier_pass = f.earlier_pass }
    go n false e r = let m : n ≡ k = cc in record { earlier = []; later = tests; in_turn = ap (λ (m : ℕ). (m, false) ∷ tests) m; earlier_pass = tt }

fails_to : (earlier later : List (ℕ × Bool)) (k : ℕ) → T (every (λ t. t.1) earlier) → first_failing (earlier ++ ((k, false) ∷ later)) ≡ refused k
fails_to [] later k t = refl
fails_to (x ∷ earlier) later k t = go x.1 t (fails_to earlier later k)
  where
    go : (b : Bool) → T (b && every (λ t. t.1) earlier) → (T (every (λ t. t.1) earlier) → first_failing (earlier ++ ((k, false) ∷ later)) ≡ refused k) → unless b x.0 (first_failing (earlier ++ ((k, false) ∷ later))) ≡ refused k
    go true t r = r t
    go false t r = absurd t

pub fails_first : (tests : List (ℕ × Bool)) (k : ℕ) → (first_failing tests ≡ refused k) ↔ FirstFails k tests
fails_first tests k = (fails_from tests k, λ f. ap first_failing f.in_turn ∙ fails_to f.earlier f.later k f.earlier_pass)

-- the tests have numbers of the table
abbrev pub InTable : List (ℕ × Bool) → Bool
InTable tests = every (λ t. in_table t.0) tests

-- what a call is to show for each verdict of its tests
module _ (Refused : ℕ → Type 0) (Unchanged Work : Type 0) where
  abbrev pub Case : Verdict → Type 0
  Case Verdict.accepted = Work × ((k : ℕ) → Refused k → ⊥)
  Case (Verdict.refused k) = Refused k × ((j : ℕ) → Refused j → j ≡ k) × Unchanged × (Work → ⊥)

  -- and what follows
  module _ (tests : List (ℕ × Bool)) (here : Case (first_failing tests)) where
    refused_is : (k : ℕ) → Refused k ↔ (first_failing tests ≡ refused k)
    refused_is k = go (first_failing tests) here
      where
        go : (v : Verdict) → Case v → Refused k ↔ (v ≡ refused k)
        go Verdict.accepted c = (λ r. absurd (c.1 k r), λ e. clash (cc))
        go (Verdict.refused j) c = (λ r. ap refused (sym (c.1 k r)), λ e. let m : j ≡ k = cc in subst Refused m c.0)

    pub by_first : (k : ℕ) → Refused k ↔ FirstFails k tests
    by_first k = (λ r. (fails_first tests k).0 ((refused_is k).0 r), λ f. (refused_is k).1 ((fails_first tests k).1 f))

    pub by_table : T (InTable tests) → (k : ℕ) → Refused k → T (in_table k)
    by_table t k r = tests_number in_table tests k t ((refused_is k).0 r)

    pub either_of : Work ⊎ ((k : ℕ) × Refused k)
    either_of = go (first_failing tests) here
      where
        go : (v : Verdict) → Case v → Work ⊎ ((k : ℕ) × Refused k)
        go Verdict.accepted c = inl c.0
        go (Verdict.refused k) c = inr (k, c.0)

    pub not_both_of : (k : ℕ) → Refused k → Work → ⊥
    not_both_of k r w = go (first_failing tests) here
      where
        go : (v : Verdict) → Case v → ⊥
        go Verdict.accepted c = c.1 k r
        go (Verdict.refused j) c = c.3 w

    pub unchanged_of : (k : ℕ) → Refused k → Unchanged
    unchanged_of k r = go (first_failing tests) here
      where
        go : (v : Verdict) → Case v → Unchanged
        go Verdict.accepted c = absurd (c.1 k r)
        go (Verdict.refused j) c = c.2
