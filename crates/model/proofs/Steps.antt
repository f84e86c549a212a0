-- The step list, one step on: what a node with letters left has still to list.
use Prim.Native.Nat.{ℕ, zero, suc, ◌+◌}
use mathlib.Core.Bool.{Bool, true, false}
use mathlib.Core.Path.{◌≡◌, refl, sym, ap, ap₂, ◌∙◌}
use mathlib.Core.List.{List, [], ◌∷◌, ◌++◌}
use lib.ListN.{length, length-append}
use native.Mathlib.Omega.{arith}
use Rattle.model.specs.Grammar.{Grammar}
use Rattle.model.specs.Readings.{after_letter, up_to, beyond, ending_list}
use Rattle.model.specs.Tree.{left}

pub left_length : (a : ℕ) (rest : List ℕ) → length (left rest a) ≡ after_letter a (length rest)
left_length zero rest = refl
left_length (suc a) [] = refl
left_length (suc a) (x ∷ rest) = refl

after_none : (a : ℕ) → after_letter a 0 ≡ 0
after_none zero = refl
after_none (suc a) = refl

module _ (g : Grammar) where
  -- what comes after the last entry's letters, by whether the path has ended
  abbrev pub tail_steps : Bool → List ℕ → List ℕ → List ℕ
  tail_steps true es ps = ps
  tail_steps false es ps = ending_list g es ps

  -- the steps of these entries and pairs, with k letters of the last entry left
  abbrev pub steps_to_come : Bool → ℕ → List ℕ → List ℕ → List ℕ
  steps_to_come d k es ps = up_to g k ps ++ tail_steps d es (beyond g k ps)

  up_to_zero : (ps : List ℕ) → up_to g 0 ps ≡ []
  unfolding up_to
  up_to_zero [] = refl
  up_to_zero (p ∷ ps) = refl

  beyond_zero : (ps : List ℕ) → beyond g 0 ps ≡ ps
  unfolding beyond
  beyond_zero [] = refl
  beyond_zero (p ∷ ps) = refl

  pub steps_zero : (d : Bool) (es ps : List ℕ) → steps_to_come d 0 es ps ≡ tail_steps d es ps
  steps_zero d es ps = ap₂ (λ (x y : List ℕ). x ++ tail_steps d es y) (up_to_zero ps) (beyond_zero ps)

  -- the ending
  pub steps_end : (ps : List ℕ) → steps_to_come false 0 [] ps ≡ 0 ∷ steps_to_come true 0 [] ps
  unfolding ending_list
  steps_end ps = steps_zero false [] ps ∙ ap {B = List ℕ} (λ l. 0 ∷ l) (sym (steps_zero true [] ps))

  pub steps_enter : (e : ℕ) (es ps : List ℕ) → steps_to_come false 0 (e ∷ es) ps ≡ suc e ∷ steps_to_come false (length (g.form e)) es ps
  unfolding ending_list
  steps_enter e es ps = steps_zero false (e ∷ es) ps

  -- with no letter left, a pair comes only after the ending
  pub steps_pair : (d : Bool) (k p : ℕ) (es ps : List ℕ) → (k ≡ 0 → d ≡ true) → steps_to_come d k es (p ∷ ps) ≡ p ∷ steps_to_come d (after_letter (g.lexical p) k) es ps
  unfolding up_to beyond ending_list
  steps_pair d zero p es ps f = rw (f refl, after_none (g.lexical p)) (ap {B = List ℕ} (λ l. p ∷ l) (sym (steps_zero true es ps)))
  steps_pair d (suc k) p es ps f = refl

  pub steps_none : (k : ℕ) → steps_to_come true k [] [] ≡ []
  unfolding up_to beyond ending_list
  steps_none k = refl

  up_to_beyond : (k : ℕ) (ps : List ℕ) → length (up_to g k ps) + length (beyond g k ps) ≡ length ps
  unfolding up_to beyond
  up_to_beyond k [] = omega arith
  up_to_beyond zero (p ∷ ps) = omega arith
  up_to_beyond (suc k) (p ∷ ps) = let h = up_to_beyond (after_letter (g.lexical p) (suc k)) ps in omega arith

  list_length : (es ps : List ℕ) → length (ending_list g es ps) ≡ suc (length es + length ps)
  unfolding ending_list
  list_length [] ps = omega arith
  list_length (e ∷ es) ps =
      let k = length (g.form e) in
      let h = list_length es (beyond g k ps) in
      omega (arith, up_to_beyond k ps, length-append (up_to g k ps) (ending_list g es (beyond g k ps)))

  pub steps_length : (es ps : List ℕ) → length (steps_to_come false 0 es ps) ≡ suc (length es + length ps)
  steps_length es ps = ap length (steps_zero false es ps) ∙ list_length es ps
