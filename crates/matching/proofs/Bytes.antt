-- The bytes of a text from a place: nothing at its end, and three where three are left.
use Prim.Native.Nat.{ℕ, ◌+◌, ◌-◌, ◌≤◌, ◌<◌}
use native.Mathlib.Omega.{arith}
use native.Mathlib.Decide.{dec_lt}
use mathlib.Core.Path.{◌≡◌, sym, ap, ◌∙◌}
use mathlib.Core.List.{List, [], ◌∷◌}
use lib.ListN.{length, get_or, drop}
use lib.Seq.{drop-length}
use mathlib.Core.Bool.{true, false, false≢true}
use Rattle.contexts.specs.Reader.{starts_with}
use Rattle.model.proofs.Rest.{drop_step}

at_end : (t : List ℕ) (at : ℕ) → at ≡ length t → drop at t ≡ []
at_end t at e = rw e (drop-length t)

-- a byte that stands somewhere stands within
pub starts_inside : (t : List ℕ) (b from : ℕ) → from ≤ length t → starts_with b (drop from t) ≡ true → from < length t
starts_inside t b from h e = go (dec_lt from (length t))
  where
    go : Dec (from < length t) → from < length t
    go (yes l) = l
    go (no l) = let f : false ≡ true = sym (ap (starts_with b) (at_end t from (omega arith))) ∙ e in absurd (false≢true f)

-- three bytes at a place
pub three : (t : List ℕ) (from : ℕ) → 3 ≤ length t - from → drop from t ≡ get_or t from 0 ∷ get_or t (from + 1) 0 ∷ get_or t (from + 2) 0 ∷ drop (from + 3) t
three t from h =
    let a : from + 1 + 1 ≡ from + 2 = omega arith in
    let b : from + 2 + 1 ≡ from + 3 = omega arith in
    drop_step t 0 from (omega arith)
    ∙ ap (λ (l : List ℕ). get_or t from 0 ∷ l) (drop_step t 0 (from + 1) (omega arith) ∙ ap (λ (n : ℕ). get_or t (from + 1) 0 ∷ drop n t) a)
    ∙ ap (λ (l : List ℕ). get_or t from 0 ∷ get_or t (from + 1) 0 ∷ l) (drop_step t 0 (from + 2) (omega arith) ∙ ap (λ (n : ℕ). get_or t (from + 2) 0 ∷ drop n t) b)
