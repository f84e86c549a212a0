-- A rule of an image that passes test 7 has exactly one narrowest column for each pair and the boundary: the one that it takes.
use Prim.Native.Nat.{ℕ, ◌<◌}
use native.Mathlib.Omega.{arith}
use mathlib.Core.Bool.{Bool, true, false, ◌||◌, not, cond}
use mathlib.Core.Path.{◌≡◌, refl, sym}
use mathlib.Core.Logic.{◌⊎◌, inl, inr, ⊎_elim}
use mathlib.Core.List.{List, [], ◌∷◌}
use lib.Dec.{T, ltb, eqb, ltb→lt, eqb→eq}
use Rattle.model.specs.Lists.{below, every, first}
use Rattle.model.specs.RuleTables.{Pair, matches, breadth, column, column_count, takes_column, column_for}
use Rattle.model.proofs.Booleans.{and_out, not_both, of_true}
use Rattle.model.proofs.Lists.{every_at, below_has}

or_out : (a b : Bool) → T (a || b) → T a ⊎ T b
or_out true b h = inl tt
or_out false b h = inr h

-- the first that passes does pass
first_passes : (f : ℕ → Bool) (xs : List ℕ) (d : ℕ) → (first f xs d ≡ d) ⊎ T (f (first f xs d))
first_passes f [] d = inl refl
first_passes f (x ∷ xs) d = go (f x) refl (first_passes f xs d)
  where
    go : (b : Bool) → f x ≡ b → (first f xs d ≡ d) ⊎ T (f (first f xs d)) → (cond b x (first f xs d) ≡ d) ⊎ T (f (cond b x (first f xs d)))
    go true e r = inr (of_true (f x) e)
    go false e r = r

module _ (sets : List (List ℕ)) (ps : List Pair) (t : List ℕ) (p : Pair) where
  -- one of two columns that a pair takes is no broader than the other
  narrower : (c d : ℕ) → d < column_count t → T (takes_column sets ps t p c) → T (takes_column sets ps t p d) → (d ≡ c) ⊎ (breadth sets ps (column t c) < breadth sets ps (column t d))
  unfolding takes_column
  narrower c d h s u =
      let a = and_out (matches sets (column t c) p) (every (λ d. eqb d c || not (matches sets (column t d) p) || ltb (breadth sets ps (column t c)) (breadth sets ps (column t d))) (below (column_count t))) s in
      let b = and_out (matches sets (column t d) p) (every (λ e. eqb e d || not (matches sets (column t e) p) || ltb (breadth sets ps (column t d)) (breadth sets ps (column t e))) (below (column_count t))) u in
      let k = every_at (λ d. eqb d c || not (matches sets (column t d) p) || ltb (breadth sets ps (column t c)) (breadth sets ps (column t d))) (below (column_count t)) (below_has (column_count t) d h) a.1 in
      ⊎_elim
      (λ x. ⊎_elim (λ y. inl (eqb→eq d c y)) (λ y. absurd (not_both (matches sets (column t d) p) b.0 y)) (or_out (eqb d c) (not (matches sets (column t d) p)) x))
      (λ x. inr (ltb→lt (breadth sets ps (column t c)) (breadth sets ps (column t d)) x))
      (or_out (eqb d c || not (matches sets (column t d) p)) (ltb (breadth sets ps (column t c)) (breadth sets ps (column t d))) k)

  pub one_narrowest : (c d : ℕ) → c < column_count t → d < column_count t → T (takes_column sets ps t p c) → T (takes_column sets ps t p d) → c ≡ d
  one_narrowest c d h k s u =
      ⊎_elim sym (λ x. ⊎_elim (λ e. e) (λ y. absurd (omega arith)) (narrower d c h u s)) (narrower c d k s u)

  -- where a pair takes a column, it is narrowest
  pub taken_narrowest : column_for sets ps t p < column_count t → T (takes_column sets ps t p (column_for sets ps t p))
  unfolding column_for
  taken_narrowest h = ⊎_elim (λ e. absurd (omega arith)) (λ x. x) (first_passes (takes_column sets ps t p) (below (column_count t)) (column_count t))
