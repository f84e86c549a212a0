-- Bytes that are no operator's: too few, too many, or with another first byte.
use Prim.Native.Nat.{ℕ, ◌≤◌, ◌<◌}
use native.Mathlib.Omega.{arith}
use mathlib.Core.Bool.{false}
use mathlib.Core.Path.{◌≡◌, refl, ap}
use mathlib.Core.List.{List}
use lib.ListN.{length, get_or}
use Rattle.model.specs.Lists.{same_list}
use Rattle.model.proofs.Booleans.{false_of, same_out}
use Rattle.contexts.specs.Operators.{Operator, only-there, always-there, both, never-there}
use Rattle.rule_texts.specs.Line.{sign, no_operator, read_sign}

no_sign : (u : List ℕ) → ((o : Operator) → u ≡ sign o → ⊥) → no_operator ≡ read_sign u
no_sign u f = rw (off only-there, off always-there, off both, off never-there) refl
  where
    off : (o : Operator) → same_list u (sign o) ≡ false
    off o = false_of (same_list u (sign o)) (λ t. f o (same_out u (sign o) t))

module _ (u : List ℕ) where
  pub too_few : length u < 2 → no_operator ≡ read_sign u
  too_few h = no_sign u go
    where
      go : (o : Operator) → u ≡ sign o → ⊥
      go only-there e = omega (arith, ap length e)
      go always-there e = omega (arith, ap length e)
      go both e = omega (arith, ap length e)
      go never-there e = omega (arith, ap length e)

  pub too_many : 4 ≤ length u → no_operator ≡ read_sign u
  too_many h = no_sign u go
    where
      go : (o : Operator) → u ≡ sign o → ⊥
      go only-there e = omega (arith, ap length e)
      go always-there e = omega (arith, ap length e)
      go both e = omega (arith, ap length e)
      go never-there e = omega (arith, ap length e)

  pub not_of_two : length u < 3 → (get_or u 0 0 ≡ 61 → ⊥) → (get_or u 0 0 ≡ 60 → ⊥) → no_operator ≡ read_sign u
  not_of_two h f g = no_sign u go
    where
      go : (o : Operator) → u ≡ sign o → ⊥
      go only-there e = f (ap (λ (l : List ℕ). get_or l 0 0) e)
      go always-there e = g (ap (λ (l : List ℕ). get_or l 0 0) e)
      go both e = omega (arith, ap length e)
      go never-there e = omega (arith, ap length e)

  pub not_of_three : 3 ≤ length u → (get_or u 0 0 ≡ 60 → ⊥) → (get_or u 0 0 ≡ 47 → ⊥) → no_operator ≡ read_sign u
  not_of_three h f g = no_sign u go
    where
      go : (o : Operator) → u ≡ sign o → ⊥
      go only-there e = omega (arith, ap length e)
      go always-there e = omega (arith, ap length e)
      go both e = f (ap (λ (l : List ℕ). get_or l 0 0) e)
      go never-there e = g (ap (λ (l : List ℕ). get_or l 0 0) e)
