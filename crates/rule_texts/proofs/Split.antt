-- A text cut at its first byte b: the parts put together again, and a text put together cut.
use Prim.Native.Nat.{ℕ}
use mathlib.Core.Bool.{Bool, true, false, ◌||◌, not, cond}
use mathlib.Core.Path.{◌≡◌, refl, ap}
use mathlib.Core.List.{List, [], ◌∷◌, ◌++◌}
use lib.Dec.{T, eqb, eqb→eq}
use native.Mathlib.Omega.{arith}
use borrow.Author.Tests.{eq-eqb}
use Rattle.model.specs.Lists.{every}
use Rattle.model.proofs.Booleans.{and_out, not_out}
use Rattle.rule_texts.specs.Line.{up_to, after, has}

-- no byte of it is b
abbrev pub lacks : ℕ → List ℕ → Bool
lacks b t = every (λ x. not (eqb x b)) t

-- what was cut is the text
pub whole_again : (b : ℕ) (t : List ℕ) → T (has b t) → up_to b t ++ (b ∷ after b t) ≡ t
whole_again b [] h = absurd h
whole_again b (x ∷ t) h = go (eqb x b) (λ k. eqb→eq x b k) h (whole_again b t)
  where
    go : (s : Bool) → (T s → x ≡ b) → T (s || has b t) → (T (has b t) → up_to b t ++ (b ∷ after b t) ≡ t) → cond s [] (x ∷ up_to b t) ++ (b ∷ cond s t (after b t)) ≡ x ∷ t
    go true e k r = let f = e tt in cc
    go false e k r = ap (λ (l : List ℕ). x ∷ l) (r k)

-- where something stands after it, there is a byte b
pub byte_there : (b : ℕ) (t : List ℕ) (x : ℕ) (u : List ℕ) → after b t ≡ x ∷ u → T (has b t)
byte_there b [] x u e = let z : ◌≡◌ {A = ℕ} 0 1 = cc in absurd (omega arith)
byte_there b (y ∷ t) x u e = go (eqb y b) e (byte_there b t x u)
  where
    go : (s : Bool) → cond s t (after b t) ≡ x ∷ u → (after b t ≡ x ∷ u → T (has b t)) → T (s || has b t)
    go true e r = tt
    go false e r = r e

-- the cut of a first part that lacks b, a byte b and a second part
pub first_part : (b : ℕ) (u v : List ℕ) → T (lacks b u) → up_to b (u ++ (b ∷ v)) ≡ u
first_part b [] v h = rw (eq-eqb b b refl) refl
first_part b (x ∷ u) v h =
    let k = and_out (not (eqb x b)) (lacks b u) h in
    rw (not_out (eqb x b) k.0) (ap (λ (l : List ℕ). x ∷ l) (first_part b u v k.1))

pub second_part : (b : ℕ) (u v : List ℕ) → T (lacks b u) → after b (u ++ (b ∷ v)) ≡ v
second_part b [] v h = rw (eq-eqb b b refl) refl
second_part b (x ∷ u) v h =
    let k = and_out (not (eqb x b)) (lacks b u) h in
    rw (not_out (eqb x b) k.0) (second_part b u v k.1)

pub is_there : (b : ℕ) (u v : List ℕ) → has b (u ++ (b ∷ v)) ≡ true
is_there b [] v = rw (eq-eqb b b refl) refl
is_there b (x ∷ u) v = go (eqb x b) (is_there b u v)
  where
    go : (s : Bool) → has b (u ++ (b ∷ v)) ≡ true → (s || has b (u ++ (b ∷ v))) ≡ true
    go true e = refl
    go false e = e
