-- The lines of a text, one at a time: up to its first byte 10, and those of what stands after it.
use Prim.Native.Nat.{ℕ}
use mathlib.Core.Bool.{Bool, true, false, cond}
use mathlib.Core.Path.{◌≡◌, refl, sym, ap, ◌∙◌}
use mathlib.Core.List.{List, [], ◌∷◌, ◌++◌, append_assoc, append-nil}
use lib.Dec.{eqb}
use Rattle.model.specs.Lines.{lines_from, lines_of}
use Rattle.rule_texts.specs.Line.{up_to, after}

pub lines_none : lines_of [] ≡ []
unfolding lines_of lines_from
lines_none = refl

-- the lines after the beginning of one, which holds a byte
begun : (x : ℕ) (l t : List ℕ) → lines_from (x ∷ l) t ≡ ((x ∷ l) ++ up_to 10 t) ∷ lines_from [] (after 10 t)
unfolding lines_from
begun x l [] = ap (λ (u : List ℕ). u ∷ []) (sym (append-nil (x ∷ l)))
begun x l (b ∷ t) = go (eqb b 10) (begun x (l ++ (b ∷ [])) t)
  where
    go : (s : Bool) → lines_from (x ∷ (l ++ (b ∷ []))) t ≡ ((x ∷ (l ++ (b ∷ []))) ++ up_to 10 t) ∷ lines_from [] (after 10 t)
        → cond s ((x ∷ l) ∷ lines_from [] t) (lines_from (x ∷ (l ++ (b ∷ []))) t) ≡ ((x ∷ l) ++ cond s [] (b ∷ up_to 10 t)) ∷ lines_from [] (cond s t (after 10 t))
    go true e = ap (λ (u : List ℕ). u ∷ lines_from [] t) (sym (append-nil (x ∷ l)))
    go false e = e ∙ ap (λ (u : List ℕ). (x ∷ u) ∷ lines_from [] (after 10 t)) (append_assoc l (b ∷ []) (up_to 10 t))

pub lines_on : (x : ℕ) (t : List ℕ) → lines_of (x ∷ t) ≡ up_to 10 (x ∷ t) ∷ lines_of (after 10 (x ∷ t))
unfolding lines_of lines_from
lines_on x t = go (eqb x 10) (begun x [] t)
  where
    go : (s : Bool) → lines_from (x ∷ []) t ≡ (x ∷ up_to 10 t) ∷ lines_from [] (after 10 t)
        → cond s ([] ∷ lines_from [] t) (lines_from (x ∷ []) t) ≡ cond s [] (x ∷ up_to 10 t) ∷ lines_from [] (cond s t (after 10 t))
    go true e = refl
    go false e = e
