-- Sets kept for each lexicon leave nothing out, and they still do not after one lexicon's set is replaced.
use Prim.Native.Nat.{ℕ, zero, suc, ◌≤◌, ◌<◌}
use native.Mathlib.Omega.{arith}
use native.Mathlib.Decide.{ℕ_discrete}
use mathlib.Core.Bool.{Bool, ◌&&◌}
use mathlib.Core.Path.{◌≡◌, refl, sym, ap, ◌∙◌, subst}
use mathlib.Core.Logic.{inl, inr}
use mathlib.Core.List.{List, [], ◌∷◌}
use lib.Dec.{T}
use borrow.Author.Tests.{eq-eqb, ne_eqb}
use Rattle.model.specs.Lists.{below}
use Rattle.model.specs.Blocks.{header}
use Rattle.model.specs.Lexicon.{in_lexicon, entry, form_of, goes_to}
use Rattle.model.specs.GrammarOf.{grammar_of}
use Rattle.model.specs.Query.{Query}
use Rattle.model.proofs.Booleans.{and_out}
use Rattle.model.proofs.Lists.{below_from, any_from}
use Rattle.positions.specs.Positions.{Feasible, Over, Inserted, Leads}
use Rattle.filter.specs.Reach.{Sound}
use Rattle.filter.specs.Lexicons.{after_in, Reaches, replaced}
use Rattle.filter.proofs.Afterward.{after_end, after_way, after_map}
use Rattle.filter.proofs.Leads.{leads_map}

-- what leads to positions up to n stands at one of them
module _ (f : Feasible) (n : ℕ) where
  pub inserted_within : (t : ℕ) (S : ℕ → Type 0) → ((k : ℕ) → S k → k ≤ n) → (i : ℕ) → Inserted f t S i → i ≤ n
  inserted_within zero S h i s = h i s
  inserted_within (suc t) S h i (inl s) = h i s
  inserted_within (suc t) S h i (inr s) = let b = inserted_within t S h (suc i) s.1 in omega arith

  over_within : (a : ℕ) (S : ℕ → Type 0) → ((k : ℕ) → S k → k ≤ n) → (i : ℕ) → Over f a S i → i ≤ n
  over_within a S h i (inl s) = let b = h (suc i) s.1 in omega arith
  over_within a S h i (inr s) = h i s.1

  pub leads_within : (xs : List ℕ) (S : ℕ → Type 0) → ((k : ℕ) → S k → k ≤ n) → (i : ℕ) → Leads f xs S i → i ≤ n
  leads_within [] S h i s = h i s
  leads_within (a ∷ xs) S h i s = inserted_within 8 (Over f a (Leads f xs S)) (over_within a (Leads f xs S) (leads_within xs S h)) i s

module _ (image : List ℕ) (q : Query) (f : Feasible) where
  -- by entry, as the law asks
  pub reaches_sound : (reach : ℕ → ℕ → Bool) → Reaches image q f reach → Sound (grammar_of image) q f (after_in image reach)
  unfolding grammar_of
  reaches_sound reach r e inside i (inl s) = after_end image reach e i s.0 (r.at_end i s.1)
  reaches_sound reach r e inside i (inr s) =
      let goes = goes_to (entry image e) (header image).form in
      let u = any_from (λ x. goes x && in_lexicon image x s.0) (below (header image).lexicons) s.1.1.0 in
      let v = and_out (goes u.0) (in_lexicon image u.0 s.0) u.2 in
      let few = below_from (header image).lexicons u.0 u.1 in
      after_way image reach e i u.0 few v.0 (r.onward u.0 few s.0 s.1.0 v.1 i s.1.1.1)

  module _ (reach : ℕ → ℕ → Bool) (r : Reaches image q f reach) (y : ℕ) (m : ℕ → Bool) where
    replaced_same : (i : ℕ) → replaced reach y m y i ≡ m i
    unfolding replaced
    replaced_same i = rw (eq-eqb y y refl) refl

    replaced_other : (x i : ℕ) → (x ≡ y → ⊥) → replaced reach y m x i ≡ reach x i
    unfolding replaced
    replaced_other x i h = rw (ne_eqb x y h) refl

    -- replaced by a part of itself that holds what its entries lead on to
    module _ (place : y < 64) (part : (i : ℕ) → T (m i) → T (reach y i))
        (holds : (e : ℕ) → e < (header image).entries → T (in_lexicon image y e) → (i : ℕ) → Leads f (form_of (entry image e)) (λ k. T (after_in image reach e k)) i → T (m i)) where
      less : (x i : ℕ) → T (replaced reach y m x i) → T (reach x i)
      less x i t = go (ℕ_discrete x y)
        where
          go : Dec (x ≡ y) → T (reach x i)
          go (yes e) = subst (λ (z : ℕ). T (reach z i)) (sym e) (part i (subst (λ (b : Bool). T b) (ap (λ (z : ℕ). replaced reach y m z i) e ∙ replaced_same i) t))
          go (no h) = subst (λ (b : Bool). T b) (replaced_other x i h) t

      pub replaced_reach : Reaches image q f (replaced reach y m)
      replaced_reach = record {
        at_end = λ i s. subst (λ (b : Bool). T b) (sym (replaced_other 255 i (λ e. omega arith))) (r.at_end i s);
        onward = λ x other e inside has i s. go x other e inside has i (leads_map f (form_of (entry image e)) (Kept e) (Leading e) (kept e) i s) (ℕ_discrete x y);
      }
        where
          Kept : ℕ → ℕ → Type 0
          Kept e k = T (after_in image (replaced reach y m) e k)

          Leading : ℕ → ℕ → Type 0
          Leading e k = T (after_in image reach e k)

          kept : (e k : ℕ) → Kept e k → Leading e k
          kept e k = after_map image (replaced reach y m) reach less e k

          go : (x : ℕ) → x < (header image).lexicons → (e : ℕ) → e < (header image).entries → T (in_lexicon image x e) → (i : ℕ)
              → Leads f (form_of (entry image e)) (λ k. T (after_in image reach e k)) i → Dec (x ≡ y) → T (replaced reach y m x i)
          go x other e inside has i s (yes h) =
              subst (λ (z : ℕ). T (replaced reach y m z i)) (sym h)
              (subst (λ (b : Bool). T b) (sym (replaced_same i)) (holds e inside (subst (λ (z : ℕ). T (in_lexicon image z e)) h has) i s))
          go x other e inside has i s (no h) = subst (λ (b : Bool). T b) (sym (replaced_other x i h)) (r.onward x other e inside has i s)
