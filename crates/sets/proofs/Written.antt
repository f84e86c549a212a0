-- Arrays written place by place.
use Prim.Native.Nat.{ℕ, ◌+◌, ◌<◌, ◌≤◌}
use native.Mathlib.Omega.{arith}
use native.Mathlib.Decide.{ℕ_discrete}
use mathlib.Core.Path.{◌≡◌, refl, ◌∙◌}
use mathlib.Core.List.{List}
use lib.ListN.{length, set, length-set}
use lib.Seq.{get_or-set_same, get_or-set_other}
use Rattle.model.specs.Lists.{byte}

-- an array whose first p places were written, the others as they were
pub record Written (f : ℕ → ℕ) (l₀ : List ℕ) (p : ℕ) (l : List ℕ) : Type 0 where
  pub size : length l ≡ length l₀
  pub done : (q : ℕ) → q < p → byte l q ≡ f q
  pub left : (q : ℕ) → p ≤ q → byte l q ≡ byte l₀ q

pub written_none : (f : ℕ → ℕ) (l : List ℕ) → Written f l 0 l
written_none f l = record { size = refl; done = λ q h. absurd (omega arith); left = λ q h. refl }

module _ {f : ℕ → ℕ} {l₀ l : List ℕ} {p : ℕ} (w : Written f l₀ p l) (v : ℕ) (h : p < length l₀) (e : v ≡ f p) where
  pub written_more : Written f l₀ (p + 1) (set l p v)
  written_more = record { size = length-set l p v ∙ w.size; done = λ q. one q (ℕ_discrete q p); left = λ q k. get_or-set_other l p q v 0 (omega arith) ∙ w.left q (omega arith) }
    where
      one : (q : ℕ) → Dec (q ≡ p) → q < p + 1 → byte (set l p v) q ≡ f q
      one q (yes d) k = rw d (get_or-set_same l p v 0 (omega (arith, w.size)) ∙ e)
      one q (no d) k = get_or-set_other l p q v 0 d ∙ w.done q (omega arith)
