-- A loop that offers what f 0, f 1, .. find, one after the other, by any step: what holds when k of them are passed.
use Prim.Native.Nat.{ℕ, zero, suc, ◌+◌, ◌<◌, ◌≤◌}
use native.Mathlib.Nat.{eq-or-lt_of_le}
use native.Mathlib.Numerals.{add-one}
use native.Mathlib.Omega.{arith}
use mathlib.Core.Logic.{⊎_elim}
use mathlib.Core.Path.{◌≡◌, sym}
use mathlib.Core.List.{List, []}
use Rattle.model.specs.Lists.{below, flat_map}
use Rattle.model.specs.Readings.{Reading}
use Rattle.model.proofs.Lists.{flat_map_below}
use Rattle.rows.specs.Offering.{offer_all, Keeps}
use Rattle.rows.proofs.Offering.{offer_none, offer_append, offer_full}

pub record Turns {S : Type 0} (step : S → Reading → S) (f : ℕ → List Reading) (s₀ s : S) (k : ℕ) : Type 0 where
  pub done : s ≡ offer_all step s₀ (flat_map f (below k))

module _ {S : Type 0} {step : S → Reading → S} {f : ℕ → List Reading} {s₀ : S} where
  pub turns_none : Turns step f s₀ s₀ 0
  turns_none = record { done = sym (offer_none step s₀) }

  -- one more is passed by a call that offers it
  pub turns_more : {s s' : S} {k : ℕ} (l : List Reading) → Turns step f s₀ s k → s' ≡ offer_all step s l → l ≡ f k → Turns step f s₀ s' (k + 1)
  turns_more {s} {s'} {k} l p e q = record { done = rw (add-one k, flat_map_below f k, offer_append, ← p.done, ← q) e }

  -- one more is passed by going on, where it finds nothing
  pub turns_skip : {s : S} {k : ℕ} → Turns step f s₀ s k → f k ≡ [] → Turns step f s₀ s (k + 1)
  turns_skip {s} {k} p q = record { done = rw (add-one k, flat_map_below f k, offer_append, q, offer_none) p.done }

  -- those up to the next that may find something are passed by going on
  pub turns_far : {s : S} {k : ℕ} (m : ℕ) → Turns step f s₀ s k → k ≤ m → ((i : ℕ) → k ≤ i → i < m → f i ≡ []) → Turns step f s₀ s m
  turns_far {s} {k} zero p h e = let q : k ≡ 0 = omega arith in rw q at p
  turns_far {s} {k} (suc m) p h e =
      ⊎_elim
      (λ q. rw q at p)
      (λ l. let t : Turns step f s₀ s m = turns_far m p (omega arith) (λ i a b. e i a (omega arith)) in rw (sym (add-one m)) (turns_skip t (e m (omega arith) (omega arith))))
      (eq-or-lt_of_le h)

  -- once the state is full, all are passed
  pub turns_stop : {Full : S → Type 0} {s : S} {k : ℕ} → Keeps Full step → (m : ℕ) → Turns step f s₀ s k → k ≤ m → Full s → s ≡ offer_all step s₀ (flat_map f (below m))
  turns_stop {Full} {s} {k} keeps zero p h o = let q : k ≡ 0 = omega arith in rw q at p.done
  turns_stop {Full} {s} {k} keeps (suc m) p h o =
      ⊎_elim
      (λ e. rw e at p.done)
      (λ l. rw (flat_map_below f m, offer_append, ← turns_stop keeps m p (omega arith) o) (sym (offer_full step keeps s (f m) o)))
      (eq-or-lt_of_le h)

  pub turns_all : {s : S} {k : ℕ} (m : ℕ) → Turns step f s₀ s k → k ≡ m → s ≡ offer_all step s₀ (flat_map f (below m))
  turns_all m p e = rw e at p.done

-- the state in two variables
pub turns_is : {A B : Type 0} {step : A × B → Reading → A × B} {f : ℕ → List Reading} {s₀ : A × B} {a a' : A} {b b' : B} {k : ℕ} → Turns step f s₀ (a, b) k → a' ≡ a → b' ≡ b → Turns step f s₀ (a', b') k
turns_is p e1 e2 = rw (e1, e2) p

pub state_is : {A B : Type 0} {s : A × B} {a a' : A} {b b' : B} → (a, b) ≡ s → a' ≡ a → b' ≡ b → (a', b') ≡ s
state_is p e1 e2 = rw (e1, e2) p
