-- Bytes stored: zeros one after another, and a two-byte number, what is read back of it and of other places.
use Prim.Native.Nat.{ℕ, ◌+◌, ◌/◌, ◌%◌, ◌<◌}
use native.Mathlib.Omega.{arith}
use native.Mathlib.Decide.{ℕ_discrete}
use mathlib.Core.Path.{◌≡◌, ap, ◌∙◌}
use mathlib.Core.List.{List}
use lib.ListN.{length, get_or, set, length-set}
use lib.Seq.{get_or-set_same, get_or-set_other}
use Rattle.model.specs.Lists.{number}

pub zeros_more : (bytes : List ℕ) (i : ℕ) → i < length bytes → ((k : ℕ) → k < i → get_or bytes k 0 ≡ 0) → (k : ℕ) → k < i + 1 → get_or (set bytes i 0) k 0 ≡ 0
zeros_more bytes i inside all k h = go (ℕ_discrete k i)
  where
    go : Dec (k ≡ i) → get_or (set bytes i 0) k 0 ≡ 0
    go (yes z) = ap (λ (j : ℕ). get_or (set bytes i 0) j 0) z ∙ get_or-set_same bytes i 0 0 inside
    go (no z) = get_or-set_other bytes i k 0 0 z ∙ all k (omega arith)

module _ (bytes : List ℕ) (at n : ℕ) where
  abbrev pub stored : List ℕ
  stored = set (set bytes at (n % 256)) (at + 1) (n / 256 % 256)

  pub stored_long : length stored ≡ length bytes
  stored_long = length-set (set bytes at (n % 256)) (at + 1) (n / 256 % 256) ∙ length-set bytes at (n % 256)

  pub stored_other : (j : ℕ) → (j ≡ at → ⊥) → (j ≡ at + 1 → ⊥) → get_or stored j 0 ≡ get_or bytes j 0
  stored_other j f g = get_or-set_other (set bytes at (n % 256)) (at + 1) j (n / 256 % 256) 0 g ∙ get_or-set_other bytes at j (n % 256) 0 f

  pub stored_here : at + 1 < length bytes → n < 65536 → number stored at ≡ n
  stored_here inside small =
      let low : get_or stored at 0 ≡ n % 256 = get_or-set_other (set bytes at (n % 256)) (at + 1) at (n / 256 % 256) 0 (λ z. omega arith) ∙ get_or-set_same bytes at (n % 256) 0 (omega arith) in
      let high : get_or stored (at + 1) 0 ≡ n / 256 % 256 = get_or-set_same (set bytes at (n % 256)) (at + 1) (n / 256 % 256) 0 (omega (arith, length-set bytes at (n % 256))) in
      omega (arith, low, high)
