-- A line by its parts: what it is read as, once cut at its first space, and what stands after its own pair at the underscore.
use Prim.Native.Nat.{ℕ, ◌+◌, ◌<◌}
use native.Mathlib.Omega.{arith}
use mathlib.Core.Bool.{Bool, true, false, ◌&&◌}
use mathlib.Core.Path.{◌≡◌, refl, sym, ap, ap₂, ◌∙◌}
use mathlib.Core.List.{List, ◌∷◌, ◌++◌}
use lib.ListN.{length, drop, length-drop, length-append}
use lib.Seq.{drop-drop, drop-append-add}
use lib.Dec.{T}
use Rattle.model.proofs.Booleans.{and_out, of_true}
use Rattle.contexts.specs.Reader.{Read, failed, starts_with, read_pair, read_context, is_right}
use Rattle.contexts.specs.Operators as operators
use Rattle.matching.proofs.Numbers.{Pair}
use Rattle.rule_texts.specs.Line.{has, rule, no_rule, Sign, operator, no_operator, read_sign, line_with, after_own, after_sign, read_rule}
use Rattle.rule_texts.specs.Text.{is_rule}
use Rattle.rule_texts.specs.Parts.{IsCut, divided_rule}
use Rattle.rule_texts.specs.declared.line.Parts.{Parts}
use Rattle.rule_texts.proofs.Found.{uncut}
use Rattle.rule_texts.proofs.Split.{whole_again}

no_pair : (s : Sign) (x : Read) → x ≡ failed → after_sign s x ≡ no_rule
no_pair no_operator x e = refl
no_pair (operator o) x e = rw e refl

pub no_space : (line : List ℕ) → has 32 line ≡ false → no_rule ≡ read_rule line
unfolding read_rule
no_space line e = let k = uncut 32 line e in sym (no_pair _ _ (ap read_pair k.1))

-- the first space of a line
module _ (line sign rest : List ℕ) (cut : IsCut 32 line sign rest) where
  as_read : read_rule line ≡ after_sign (read_sign sign) (read_pair rest)
  unfolding read_rule
  as_read = ap₂ (λ (u v : List ℕ). after_sign (read_sign u) (read_pair v)) (sym cut.1) (sym cut.2)

  pub no_sign : no_operator ≡ read_sign sign → no_rule ≡ read_rule line
  no_sign e = sym (as_read ∙ ap (λ (s : Sign). after_sign s (read_pair rest)) (sym e))

  pub no_own : read_pair rest ≡ failed → no_rule ≡ read_rule line
  no_own e = sym (as_read ∙ no_pair (read_sign sign) (read_pair rest) e)

  -- an operator and a pair
  module _ (o : operators.Operator) (n : ℕ) (s : operator o ≡ read_sign sign) (p : Pair rest 0 n (read_pair rest)) where
    headed : read_rule line ≡ after_own (starts_with 32 (drop 3 rest)) o n (drop 1 (drop 3 rest))
    headed =
        as_read ∙ ap₂ after_sign (sym s) p.same
        ∙ ap (λ (m : ℕ). after_own (starts_with 32 (drop 3 rest)) o m (drop 1 (drop 3 rest))) (sym p.number)

    pub no_second_space : starts_with 32 (drop 3 rest) ≡ false → no_rule ≡ read_rule line
    no_second_space e = sym (headed ∙ ap (λ (b : Bool). after_own b o n (drop 1 (drop 3 rest))) e)

    -- a space after them
    module _ (e : starts_with 32 (drop 3 rest) ≡ true) where
      spaced : read_rule line ≡ line_with (has 95 (drop 4 rest)) o n (drop 4 rest)
      spaced =
          headed ∙ ap (λ (b : Bool). after_own b o n (drop 1 (drop 3 rest))) e
          ∙ ap (λ (t : List ℕ). line_with (has 95 t) o n t) (drop-drop 1 3 rest)

      pub no_underscore : has 95 (drop 4 rest) ≡ false → no_rule ≡ read_rule line
      no_underscore h = sym (spaced ∙ ap (λ (b : Bool). line_with b o n (drop 4 rest)) h)

      pub divided : (left right : List ℕ) → IsCut 95 (drop 4 rest) left right
          → rule (record { operator = o; own = n; left = read_context left; right = read_context right }) ≡ read_rule line
      divided left right h = sym (spaced ∙ rw (h.0, h.1, h.2) refl)

-- a text cut at its first byte b is what stands before it, the byte, and what stands after it
cut_whole : (b : ℕ) (t u v : List ℕ) → IsCut b t u v → t ≡ u ++ (b ∷ v)
cut_whole b t u v h = sym (whole_again b t (of_true (has b t) h.0)) ∙ sym (ap₂ (λ (x y : List ℕ). x ++ (b ∷ y)) h.1 h.2)

-- where the contexts begin: after the sign, a space, the own pair and a space
module _ (line sign rest left right : List ℕ) (first : IsCut 32 line sign rest) (then : IsCut 95 (drop 4 rest) left right) where
  from_left : drop (length sign + 5) line ≡ left ++ (95 ∷ right)
  from_left = ap (drop (length sign + 5)) (cut_whole 32 line sign rest first) ∙ drop-append-add sign (32 ∷ rest) 5 ∙ cut_whole 95 (drop 4 rest) left right then

  pub parts_of : (from : ℕ) × ((from < length line) × (drop from line ≡ left ++ (95 ∷ right)))
  parts_of =
      let long : length (drop (length sign + 5) line) ≡ length left + length (95 ∷ right) = ap length from_left ∙ length-append left (95 ∷ right) in
      (length sign + 5, (omega (arith, long, length-drop (length sign + 5) line), from_left))

-- both contexts of a rule's line are of the grammar
module _ (line : List ℕ) (p : Parts) (d : rule (divided_rule p) ≡ read_rule line) where
  pub contexts_right : is_rule (read_rule line) ≡ true → T (is_right (read_context p.left.now)) × T (is_right (read_context p.right.now))
  contexts_right e =
      let u = read_context p.left.now in
      let v = read_context p.right.now in
      and_out (is_right u) (is_right v) (of_true (is_right u && is_right v) (ap is_rule d ∙ e))
