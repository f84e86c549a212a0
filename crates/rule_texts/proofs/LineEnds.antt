-- A text is its lines, byte 10 after each or none after the last; and lines so put together are its lines.
use Prim.Native.Nat.{ℕ}
use mathlib.Core.Bool.{Bool, true, false, ◌&&◌, not, cond}
use mathlib.Core.Path.{◌≡◌, refl, sym, ap, ◌∙◌, subst}
use mathlib.Core.Logic.{◌⊎◌, inl, inr}
use mathlib.Core.List.{List, [], ◌∷◌, ◌++◌, append_assoc, append-nil}
use lib.Dec.{T, eqb, eqb→eq}
use Rattle.model.specs.Lists.{every}
use Rattle.model.specs.Tree.{is_nil}
use Rattle.model.specs.Lines.{lines_from, lines_of}
use Rattle.model.proofs.Booleans.{and_out, not_out}
use Rattle.model.proofs.Lists.{every_append}
use Rattle.rule_texts.specs.Text.{ended, Ended}
use Rattle.rule_texts.proofs.Split.{lacks}

-- a line that holds a byte, and no line end
abbrev pub is_line : List ℕ → Bool
is_line l = not (is_nil l) && lacks 10 l

from_lines : (u t : List ℕ) → Ended (lines_from u t) (u ++ t)
unfolding lines_from
from_lines [] [] = inl refl
from_lines (x ∷ u) [] = inr (ap (λ (l : List ℕ). l ++ (10 ∷ [])) (append-nil (x ∷ u)))
from_lines u (b ∷ t) = go (eqb b 10) (λ h. eqb→eq b 10 h) (from_lines [] t) (from_lines (u ++ (b ∷ [])) t)
  where
    go : (s : Bool) → (T s → b ≡ 10) → Ended (lines_from [] t) t → Ended (lines_from (u ++ (b ∷ [])) t) ((u ++ (b ∷ [])) ++ t) → Ended (cond s (u ∷ lines_from [] t) (lines_from (u ++ (b ∷ [])) t)) (u ++ (b ∷ t))
    go true h (inl e) f = inl (rw (h tt) (ap (λ (l : List ℕ). u ++ (10 ∷ l)) e))
    go true h (inr e) f = inr (rw (h tt) (append_assoc u (10 ∷ t) (10 ∷ []) ∙ ap (λ (l : List ℕ). u ++ (10 ∷ l)) e))
    go false h e f = subst (λ (l : List ℕ). Ended (lines_from (u ++ (b ∷ [])) t) l) (append_assoc u (b ∷ []) t) f

pub of_lines : (t : List ℕ) → Ended (lines_of t) t
unfolding lines_of
of_lines t = from_lines [] t

-- a line up to its end
up_to_end : (u l t : List ℕ) → T (lacks 10 l) → lines_from u (l ++ (10 ∷ t)) ≡ (u ++ l) ∷ lines_from [] t
unfolding lines_from
up_to_end u [] t h = ap (λ (l : List ℕ). l ∷ lines_from [] t) (sym (append-nil u))
up_to_end u (x ∷ l) t h =
    let k = and_out (not (eqb x 10)) (lacks 10 l) h in
    rw (not_out (eqb x 10) k.0) (up_to_end (u ++ (x ∷ [])) l t k.1 ∙ ap (λ (v : List ℕ). v ∷ lines_from [] t) (append_assoc u (x ∷ []) l))

ended_lines : (ls : List (List ℕ)) → T (every is_line ls) → lines_from [] (ended ls) ≡ ls
unfolding lines_from
ended_lines [] h = refl
ended_lines (l ∷ ls) h =
    let k = and_out (is_line l) (every is_line ls) h in
    up_to_end [] l (ended ls) (and_out (not (is_nil l)) (lacks 10 l) k.0).1 ∙ ap (λ (ms : List (List ℕ)). l ∷ ms) (ended_lines ls k.1)

-- a last line end adds no line, unless one stood there
abbrev AddsNone : List ℕ → List ℕ → Type 0
AddsNone u t = (lines_from u (t ++ (10 ∷ [])) ≡ lines_from u t) ⊎ (lines_from u (t ++ (10 ∷ [])) ≡ lines_from u t ++ ([] ∷ []))

last_end : (u t : List ℕ) → AddsNone u t
unfolding lines_from
last_end [] [] = inr refl
last_end (x ∷ u) [] = inl refl
last_end u (b ∷ t) = go (eqb b 10) (last_end [] t) (last_end (u ++ (b ∷ [])) t)
  where
    q : List ℕ
    q = u ++ (b ∷ [])

    go : (s : Bool) → AddsNone [] t → AddsNone q t
        → (cond s (u ∷ lines_from [] (t ++ (10 ∷ []))) (lines_from q (t ++ (10 ∷ []))) ≡ cond s (u ∷ lines_from [] t) (lines_from q t))
        ⊎ (cond s (u ∷ lines_from [] (t ++ (10 ∷ []))) (lines_from q (t ++ (10 ∷ []))) ≡ cond s (u ∷ lines_from [] t) (lines_from q t) ++ ([] ∷ []))
    go true (inl e) f = inl (ap (λ (ls : List (List ℕ)). u ∷ ls) e)
    go true (inr e) f = inr (ap (λ (ls : List (List ℕ)). u ∷ ls) e)
    go false e f = f

pub the_lines : (ls : List (List ℕ)) (t : List ℕ) → T (every is_line ls) → Ended ls t → lines_of t ≡ ls
unfolding lines_of
the_lines ls t h (inl e) = ap (lines_from []) e ∙ ended_lines ls h
the_lines ls t h (inr e) = go (last_end [] t)
  where
    same : lines_from [] (t ++ (10 ∷ [])) ≡ ls
    same = ap (lines_from []) e ∙ ended_lines ls h

    go : AddsNone [] t → lines_from [] t ≡ ls
    go (inl f) = sym f ∙ same
    go (inr f) =
        let k : T (every is_line (lines_from [] t ++ ([] ∷ []))) = subst (λ (ms : List (List ℕ)). T (every is_line ms)) (sym same ∙ f) h in
        let m : T (every is_line (lines_from [] t) && false) = subst T (every_append is_line (lines_from [] t) ([] ∷ [])) k in
        absurd (and_out (every is_line (lines_from [] t)) false m).1
