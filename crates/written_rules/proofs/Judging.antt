-- A test at each place from the first to the last.
use Prim.Native.Nat.{ℕ, zero, suc, ◌+◌, ◌-◌, ◌≤◌, ◌<◌}
use native.Mathlib.Omega.{arith}
use native.Mathlib.Decide.{ℕ_discrete}
use mathlib.Core.Bool.{Bool, true, false, ◌&&◌, and-false}
use mathlib.Core.Path.{◌≡◌, refl, sym, ap, ap₂, ◌∙◌}
use mathlib.Core.List.{List}
use lib.ListN.{length, get_or}
use lib.Dec.{eqb}
use Rattle.contexts.specs.Operators.{Rule, kept_by, all, left, right, there}
use Rattle.relations.specs.Sets.{holds}
use Rattle.written_rules.specs.Places.{kept_at}

pub all_false : (f : ℕ → Bool) (m j : ℕ) → j < m → f j ≡ false → false ≡ all f m
all_false f zero j h e = absurd (omega arith)
all_false f (suc m) j h e = go (ℕ_discrete j m) (all_false f m j)
  where
    go : Dec (j ≡ m) → (j < m → f j ≡ false → false ≡ all f m) → false ≡ (all f m && f m)
    go (yes d) r = sym (ap (λ (b : Bool). all f m && b) (ap f (sym d) ∙ e) ∙ and-false (all f m))
    go (no d) r = ap (λ (b : Bool). b && f m) (r (omega arith) e)

pub all_more : (f : ℕ → Bool) (i : ℕ) → 1 ≤ i → all f (i - 1) ≡ true → f (i - 1) ≡ true → all f (i + 1 - 1) ≡ true
all_more f i h e g =
    let z : i + 1 - 1 ≡ suc (i - 1) = omega arith in
    rw (z, e, g) refl

-- the test at a place between the boundaries, by the two sets
module _ (r : Rule) (letter : ℕ) (s letters : List ℕ) where
  pub test_at : (i x y : ℕ) (b : Bool) → 1 ≤ i → i < length s → ((j : ℕ) → j ≤ length s → holds x j ≡ left r.left s j) → ((j : ℕ) → j < length s → holds y j ≡ right r.right s j)
      → b ≡ kept_by r.operator (eqb (get_or s i 0) r.own) (eqb (get_or letters i 0) letter) (holds x i && holds y i) → kept_at r letter s letters (i - 1) ≡ b
  test_at i x y b h k e f g =
      let z : suc (i - 1) ≡ i = omega arith in
      ap (λ (m : ℕ). kept_by r.operator (eqb (get_or s m 0) r.own) (eqb (get_or letters m 0) letter) (there r s m)) z
      ∙ ap (kept_by r.operator (eqb (get_or s i 0) r.own) (eqb (get_or letters i 0) letter)) (ap₂ (λ (a b : Bool). a && b) (sym (e i (omega arith))) (sym (f i k)))
      ∙ sym g
