-- A loop over the lines of a text: its first line and those after it, and a text by what its lines are.
use Prim.Native.Nat.{ℕ, ◌+◌, ◌≤◌, ◌<◌}
use native.Mathlib.Omega.{arith}
use mathlib.Core.Bool.{Bool, true, false, ◌&&◌}
use mathlib.Core.Path.{◌≡◌, refl, sym, ap, ap₂, ◌∙◌}
use mathlib.Core.List.{List, [], ◌∷◌}
use lib.ListN.{length}
use lib.Dec.{leb, eqb}
use borrow.Author.Tests.{le-leb, lt-leb, ne_eqb}
use Rattle.model.specs.Lists.{every}
use Rattle.model.specs.Lines.{lines_of}
use Rattle.model.proofs.Booleans.{left_true, left_false, right_false, and_out, of_true, true_of}
use Rattle.rule_texts.specs.Line.{up_to, after, has, read_rule}
use Rattle.rule_texts.specs.Text.{is_rule, is_text, knows_pairs, pairs_known}
use Rattle.rule_texts.specs.Parts.{IsCut, IsFirstLine}
use Rattle.rule_texts.proofs.Found.{uncut, rest_shorter}
use Rattle.rule_texts.proofs.Lines.{lines_none, lines_on}

-- some line is there
first_of : (t : List ℕ) → (length t ≡ 0 → ⊥) → lines_of t ≡ up_to 10 t ∷ lines_of (after 10 t)
first_of [] f = absurd (f refl)
first_of (x ∷ t) f = lines_on x t

pub first_cut : (t u v : List ℕ) → (length t ≡ 0 → ⊥) → IsCut 10 t u v → IsFirstLine t u v
first_cut t u v f h = (first_of t f ∙ ap₂ {C = List (List ℕ)} (λ (x y : List ℕ). x ∷ lines_of y) (sym h.1) (sym h.2), rw h.2 (rest_shorter 10 t f))

pub first_uncut : (t : List ℕ) → (length t ≡ 0 → ⊥) → has 10 t ≡ false → IsFirstLine t t []
first_uncut t f h = let k = uncut 10 t h in (first_of t f ∙ ap₂ {C = List (List ℕ)} (λ (x y : List ℕ). x ∷ lines_of y) k.0 k.1, omega (arith, f))

-- what is asked of each line of a text t, once it was so of those before the rest u
abbrev pub Asked : (List ℕ → Bool) → List ℕ → List ℕ → Type 0
Asked ask t u = every ask (lines_of t) ≡ every ask (lines_of u)

module _ (ask : List ℕ → Bool) (t u : List ℕ) (a : Asked ask t u) where
  pub asked_all : u ≡ [] → every ask (lines_of t) ≡ true
  asked_all e = a ∙ ap (λ (v : List ℕ). every ask (lines_of v)) e ∙ ap (every ask) lines_none

  module _ (line v : List ℕ) (f : IsFirstLine u line v) where
    next : every ask (lines_of t) ≡ (ask line && every ask (lines_of v))
    next = a ∙ ap (every ask) f.0

    pub asked_more : ask line ≡ true → Asked ask t v
    asked_more e = next ∙ left_true (ask line) (every ask (lines_of v)) e

    pub asked_fails : ask line ≡ false → every ask (lines_of t) ≡ false
    asked_fails e = next ∙ left_false (ask line) (every ask (lines_of v)) e

    -- all are so, and so is this one
    pub asked_here : every ask (lines_of t) ≡ true → ask line ≡ true
    asked_here e = true_of (ask line) (and_out (ask line) (every ask (lines_of v)) (of_true (ask line && every ask (lines_of v)) (sym next ∙ e))).0

abbrev pub rule_line : List ℕ → Bool
rule_line l = is_rule (read_rule l)

abbrev pub knows_line : ℕ → List ℕ → Bool
knows_line pairs l = knows_pairs pairs (read_rule l)

pub known_lines : (pairs : ℕ) (t : List ℕ) → pairs_known pairs t ≡ true → every (knows_line pairs) (lines_of t) ≡ true
unfolding pairs_known
known_lines pairs t e = e

-- a text by how many its lines are, and whether each is a rule's
module _ (t : List ℕ) where
  pub too_many : 32 < length (lines_of t) → is_text t ≡ false
  unfolding is_text
  too_many h = left_false (leb (length (lines_of t)) 32) (every rule_line (lines_of t)) (lt-leb (length (lines_of t)) 32 h)

  pub wrong_line : every rule_line (lines_of t) ≡ false → is_text t ≡ false
  unfolding is_text
  wrong_line e = right_false (leb (length (lines_of t)) 32) (every rule_line (lines_of t)) e

  pub right_text : length (lines_of t) ≤ 32 → every rule_line (lines_of t) ≡ true → is_text t ≡ true
  unfolding is_text
  right_text h e = left_true (leb (length (lines_of t)) 32) (every rule_line (lines_of t)) (le-leb (length (lines_of t)) 32 h) ∙ e

  pub rule_lines : is_text t ≡ true → every rule_line (lines_of t) ≡ true
  unfolding is_text
  rule_lines e =
      let few = leb (length (lines_of t)) 32 in
      let right = every rule_line (lines_of t) in
      true_of right (and_out few right (of_true (few && right) e)).1

-- a text of no line
pub none_there : (u : List ℕ) → u ≡ [] → length (lines_of u) ≡ 0
none_there u e = ap (λ (v : List ℕ). length (lines_of v)) e ∙ ap length lines_none

-- a text of as many lines as there may be, each a rule's, and of those of u
pub asked_most : (t u : List ℕ) → Asked rule_line t u → 32 + length (lines_of u) ≡ length (lines_of t) → is_text t ≡ eqb (length u) 0
asked_most t [] a e = right_text t (omega (arith, e, none_there [] refl)) (asked_all rule_line t [] a refl)
asked_most t (x ∷ u) a e = too_many t (omega (arith, e, ap length (lines_on x u))) ∙ sym (ne_eqb (length (x ∷ u)) 0 (λ z. omega arith))
