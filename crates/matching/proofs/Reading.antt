-- What is known of a text once it is read to its end, or is not.
use Prim.Native.Nat.{ℕ, suc, ◌-◌, ◌≤◌, ◌<◌}
use native.Mathlib.Omega.{arith}
use native.Mathlib.Decide.{dec_lt}
use mathlib.Core.Bool.{true, false, false≢true}
use mathlib.Core.Path.{◌≡◌, refl, sym, ap, ◌∙◌, fun_ext}
use mathlib.Core.List.{List, [], ◌∷◌}
use lib.ListN.{length, length-drop}
use lib.Dec.{leb, eqb, leb→le}
use Rattle.contexts.specs.Meaning.{Places, ends}
use Rattle.contexts.specs.Operators.{some, left, right}
use Rattle.contexts.specs.Relation.{one, through}
use Rattle.contexts.proofs.Relation.{additive}
use Rattle.relations.specs.Sets.{holds}
use Rattle.relations.specs.Rows.{row, Relates}
use borrow.Author.Tests.{le-leb, lt-leb, eq-eqb, ne_eqb}
use Rattle.contexts.specs.Context.{Context, whole}
use Rattle.contexts.specs.Reader.{failed, got, everywhere, where_it_runs, wrong, to_the_end, read_context, is_right}
use Rattle.contexts.specs.Fuel.{read_text}
use Rattle.std.proofs.Common.{Option, Some, None}
use Rattle.matching.specs.Steps.{Follows}
use Rattle.matching.specs.declared.Step.{Step}
use Rattle.matching.proofs.Steps as steps

pub empty_context : (t : List ℕ) → length t ≡ 0 → read_context t ≡ everywhere
unfolding read_context
empty_context [] e = refl
empty_context (x ∷ t) e = absurd (omega arith)

pub long_context : (t : List ℕ) → 64 < length t → read_context t ≡ wrong
unfolding read_context
long_context [] h = absurd (omega arith)
long_context (x ∷ t) h = rw (lt-leb (length (x ∷ t)) 64 h) refl

pub whole_context : (t : List ℕ) → (length t ≡ 0 → ⊥) → length t ≤ 64 → read_context t ≡ to_the_end (read_text whole 8 t)
unfolding read_context read_text
whole_context [] f h = absurd (f refl)
whole_context (x ∷ t) f h = rw (le-leb (length (x ∷ t)) 64 h) refl

end_of : (c : Context) (u : List ℕ) → is_right (to_the_end (got c u)) ≡ eqb (length u) 0
end_of c [] = refl
end_of c (x ∷ u) = sym (ne_eqb (length (x ∷ u)) 0 (λ e. omega arith))

no_text : (t : List ℕ) → length t ≡ 0 → read_text whole 8 t ≡ failed
unfolding read_text
no_text [] e = refl
no_text (x ∷ t) e = absurd (omega arith)

failed_not_got : {c : Context} {u : List ℕ} → failed ≡ got c u → ⊥
failed_not_got e = cc

module _ (t : List ℕ) (not-empty : length t ≡ 0 → ⊥) (short : length t ≤ 64) where
  pub not_read : read_text whole 8 t ≡ failed → false ≡ is_right (read_context t)
  not_read e = rw (whole_context t not-empty short, e) refl

  -- read, it is right exactly when nothing is left
  pub was_read : (s : List ℕ) (a : Step) → steps.Known t s (read_text whole 8 t) a → eqb a.at (length t) ≡ is_right (read_context t)
  was_read s a k =
      let e : is_right (read_context t) ≡ eqb (length t - a.at) 0 =
      ap is_right (whole_context t not-empty short ∙ ap to_the_end k.same) ∙ end_of k.context k.rest ∙ ap (λ (n : ℕ). eqb n 0) (ap length k.goes_on ∙ length-drop a.at t) in
      sym (e ∙ same_test a.at (length t) k.inside)
    where
      open_test : (a n : ℕ) → a ≤ n → Dec (a ≡ n) → eqb (n - a) 0 ≡ eqb a n
      open_test a n h (yes e) = eq-eqb (n - a) 0 (omega arith) ∙ sym (eq-eqb a n e)
      open_test a n h (no e) = ne_eqb (n - a) 0 (λ f. e (omega arith)) ∙ sym (ne_eqb a n e)

      same_test : (a n : ℕ) → a ≤ n → eqb (n - a) 0 ≡ eqb a n
      same_test a n h = open_test a n h (native.Mathlib.Decide.ℕ_discrete a n)

-- a right text, matched: no context is read off the empty one, and of any other a run's
module _ (t s : List ℕ) (o : Option Step) (right : is_right (read_context t) ≡ true) (h : Follows t s (read_text whole 8 t) o) where
  pub right_read : (a : Step) → o ≡ Some a → (c : Context) × (read_context t ≡ where_it_runs c) × Relates s c a.rows
  right_read a e = go (native.Mathlib.Decide.ℕ_discrete (length t) 0) (dec_lt 64 (length t))
    where
      k : steps.Known t s (read_text whole 8 t) a
      k = steps.known t s (read_text whole 8 t) o a h e

      by : (u : List ℕ) → read_context t ≡ to_the_end (got k.context u) → (c : Context) × (read_context t ≡ where_it_runs c) × Relates s c a.rows
      by [] g = (k.context, g, k.relates)
      by (x ∷ u) g = absurd (false≢true (sym (ap is_right g) ∙ right))

      go : Dec (length t ≡ 0) → Dec (64 < length t) → (c : Context) × (read_context t ≡ where_it_runs c) × Relates s c a.rows
      go (yes z) l = absurd (failed_not_got (sym (no_text t z) ∙ k.same))
      go (no z) (yes l) = absurd (false≢true (sym (ap is_right (long_context t l)) ∙ right))
      go (no z) (no l) = by k.rest (whole_context t z (omega arith) ∙ ap to_the_end k.same)

  pub right_empty : o ≡ None → read_context t ≡ everywhere
  right_empty e = go (native.Mathlib.Decide.ℕ_discrete (length t) 0) (dec_lt 64 (length t))
    where
      go : Dec (length t ≡ 0) → Dec (64 < length t) → read_context t ≡ everywhere
      go (yes z) l = empty_context t z
      go (no z) (yes l) = absurd (false≢true (sym (ap is_right (long_context t l)) ∙ right))
      go (no z) (no l) = absurd (false≢true (not_read t z (omega arith) (steps.missed t s (read_text whole 8 t) o h e) ∙ right))

pub left_everywhere : (t s : List ℕ) (i : ℕ) → read_context t ≡ everywhere → left (read_context t) s i ≡ true
left_everywhere t s i e = rw e refl

pub right_everywhere : (t s : List ℕ) (i : ℕ) → read_context t ≡ everywhere → right (read_context t) s i ≡ true
right_everywhere t s i e = rw e refl

module _ (t s : List ℕ) (c : Context) (rows : List ℕ) (e : read_context t ≡ where_it_runs c) (f : Relates s c rows) where
  pub left_by : (every reached i : ℕ) → ((j : ℕ) → holds every j ≡ leb j (length s)) → holds reached ≡ through (suc (length s)) (holds every) (row rows)
      → holds reached i ≡ left (read_context t) s i
  left_by every reached i g h =
      let all : Places = λ j. leb j (length s) in
      let a : ends s c all ≡ through (suc (length s)) all (λ m. ends s c (one m)) = additive s c all (λ j t. leb→le j (length s) t) in
      let b : through (suc (length s)) (holds every) (row rows) ≡ through (suc (length s)) all (row rows) = ap (λ (p : Places). through (suc (length s)) p (row rows)) (fun_ext g) in
      let d : through (suc (length s)) all (row rows) ≡ through (suc (length s)) all (λ m. ends s c (one m)) =
      steps.through_same (suc (length s)) all (row rows) (λ m. ends s c (one m)) (λ m l. f m (omega arith)) in
      rw e (ap (λ (p : Places). p i) (h ∙ b ∙ d ∙ sym a))

  pub right_by : (i : ℕ) → i < length s → some (row rows (suc i)) (suc (length s)) ≡ right (read_context t) s i
  right_by i l = rw e (ap (λ (p : Places). some p (suc (length s))) (f (suc i) l))
