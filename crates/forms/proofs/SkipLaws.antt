-- Skips from the last slot to the first: each by that of the slot after it.
use Prim.Native.Nat.{ℕ, ◌+◌, ◌*◌, ◌<◌, ◌≤◌}
use native.Mathlib.Omega.{arith}
use native.Mathlib.Decide.{ℕ_discrete}
use mathlib.Core.Path.{◌≡◌, sym, ap₂, ◌∙◌, subst}
use mathlib.Core.List.{List}
use lib.ListN.{length, get_or}
use Rattle.forms.specs.Slots.{skip_to}
use Rattle.forms.specs.Filling.{SkipAt, SkipsOf}
use Rattle.forms.proofs.Stores.{stored, stored_long, stored_other, stored_here}

-- on from i by the skip of i + 1, where that shares more than d letters
pub skip_next : (shared : List ℕ) (n i d to : ℕ) → d < get_or shared (i + 1) 0 → SkipAt shared n (i + 1) d to → SkipAt shared n i d to
skip_next shared n i d to more s = record { on = omega (arith, s.on); inside = s.inside; over = λ j l h. go j l h (ℕ_discrete j (i + 1)); ends = s.ends }
  where
    go : (j : ℕ) → i < j → j < to → Dec (j ≡ i + 1) → d < get_or shared j 0
    go j l h (yes z) = subst (λ (k : ℕ). d < get_or shared k 0) (sym z) more
    go j l h (no z) = s.over j (omega arith) h

pub skips_none : (shared skips : List ℕ) (n : ℕ) → length skips ≡ 67584 → SkipsOf shared skips n n
skips_none shared skips n e = record { long = e; each = λ i l h. absurd (omega arith) }

-- a number stored at slot i and depth d
module _ (shared skips : List ℕ) (n i d to : ℕ) (inside : i < 2816) (deep : d < 12) (small : to < 65536) where
  abbrev after : List ℕ
  after = stored skips (24 * i + 2 * d) to

  stored_skip : length skips ≡ 67584 → skip_to after i d ≡ to
  stored_skip e = stored_here skips (24 * i + 2 * d) to (omega arith) small

  other_skip : (j f : ℕ) → f < 12 → (j ≡ i → f ≡ d → ⊥) → skip_to after j f ≡ skip_to skips j f
  other_skip j f h apart = ap₂ (λ (x y : ℕ). x + 256 * y) (stored_other skips (24 * i + 2 * d) to (24 * j + 2 * f) (λ z. off z) (λ z. off_one z)) (stored_other skips (24 * i + 2 * d) to (24 * j + 2 * f + 1) (λ z. off_two z) (λ z. off (omega arith)))
    where
      off : 24 * j + 2 * f ≡ 24 * i + 2 * d → ⊥
      off z = let e : j ≡ i = omega arith in apart e (omega arith)

      off_one : 24 * j + 2 * f ≡ 24 * i + 2 * d + 1 → ⊥
      off_one z = omega arith

      off_two : 24 * j + 2 * f + 1 ≡ 24 * i + 2 * d → ⊥
      off_two z = omega arith

  pub skips_kept : SkipsOf shared skips n (i + 1) → SkipsOf shared after n (i + 1)
  skips_kept s = record { long = stored_long skips (24 * i + 2 * d) to ∙ s.long; each = λ j l h f k. subst (SkipAt shared n j f) (sym (other_skip j f k (λ z y. omega arith))) (s.each j l h f k) }

  pub skips_more : length skips ≡ 67584 → SkipAt shared n i d to → ((f : ℕ) → f < d → SkipAt shared n i f (skip_to skips i f)) → (f : ℕ) → f < d + 1 → SkipAt shared n i f (skip_to after i f)
  skips_more e new old f h = go (ℕ_discrete f d)
    where
      go : Dec (f ≡ d) → SkipAt shared n i f (skip_to after i f)
      go (yes z) = subst (λ (g : ℕ). SkipAt shared n i g (skip_to after i g)) (sym z) (subst (SkipAt shared n i d) (sym (stored_skip e)) new)
      go (no z) = subst (SkipAt shared n i f) (sym (other_skip i f (omega arith) (λ y w. z w))) (old f (omega arith))

pub skips_slot : (shared skips : List ℕ) (n i : ℕ) → SkipsOf shared skips n (i + 1) → ((f : ℕ) → f < 12 → SkipAt shared n i f (skip_to skips i f)) → SkipsOf shared skips n i
skips_slot shared skips n i s here = record { long = s.long; each = λ j l h d k. go j l h d k (ℕ_discrete j i) }
  where
    go : (j : ℕ) → i ≤ j → j < n → (d : ℕ) → d < 12 → Dec (j ≡ i) → SkipAt shared n j d (skip_to skips j d)
    go j l h d k (yes z) = subst (λ (m : ℕ). SkipAt shared n m d (skip_to skips m d)) (sym z) (here d k)
    go j l h d k (no z) = s.each j (omega arith) h d k
