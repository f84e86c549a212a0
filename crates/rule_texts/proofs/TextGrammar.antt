-- A text is of the grammar exactly when it is that of at most 32 rules that can be written; and no text is that of two lists of rules.
use Prim.Native.Nat.{ℕ, ◌+◌, ◌/◌, ◌%◌}
use mathlib.Core.Bool.{Bool, ◌&&◌, not}
use mathlib.Core.Path.{◌≡◌, refl, sym, ap, ap₂, ◌∙◌, subst}
use mathlib.Core.Logic.{◌↔◌}
use mathlib.Core.List.{List, [], ◌∷◌, ◌++◌, map}
use lib.ListN.{length}
use lib.Dec.{T, leb, eqb}
use native.Mathlib.Omega.{arith}
use borrow.Author.Tests.{ne_eqb}
use Rattle.model.specs.Lists.{every}
use Rattle.model.specs.Lines.{lines_of}
use Rattle.model.proofs.Booleans.{and_out, and_in, out3}
use Rattle.model.proofs.Lists.{every_append}
use Rattle.contexts.specs.Operators.{Operator, only-there, always-there, both, never-there, Rule}
use Rattle.rule_texts.specs.Line.{sign, three_digits, written_context, written_rule, may_stand, writable, Line, rule, no_rule, read_rule}
use Rattle.rule_texts.specs.Text.{Ended, TextOf, is_rule, is_text}
use Rattle.rule_texts.proofs.Split.{lacks}
use Rattle.rule_texts.proofs.Contexts.{context_lacks}
use Rattle.rule_texts.proofs.LineGrammar.{line_iff, one_line}
use Rattle.rule_texts.proofs.LineEnds.{is_line, of_lines, the_lines}

-- a rule's line holds a byte and no line end
lacks_both : (u v : List ℕ) → T (lacks 10 u) → T (lacks 10 v) → T (lacks 10 (u ++ v))
lacks_both u v h k = rw (every_append (λ x. not (eqb x 10)) u v) (and_in (lacks 10 u) (lacks 10 v) h k)

sign_line : (o : Operator) (t : List ℕ) → T (lacks 10 t) → T (is_line (sign o ++ t))
sign_line only-there t h = h
sign_line always-there t h = h
sign_line both t h = h
sign_line never-there t h = h

digits_lack : (n : ℕ) → T (lacks 10 (three_digits n))
digits_lack n = rw (ne_eqb (48 + n / 100) 10 (λ e. omega arith), ne_eqb (48 + n / 10 % 10) 10 (λ e. omega arith), ne_eqb (48 + n % 10) 10 (λ e. omega arith)) tt

rule_line_lem : (r : Rule) → T (writable r) → T (is_line (written_rule r))
rule_line_lem r h =
    let k = out3 (leb r.own 999) (may_stand r.left) (may_stand r.right) h in
    sign_line r.operator (32 ∷ (three_digits r.own ++ (32 ∷ (written_context r.left ++ (95 ∷ written_context r.right)))))
    (lacks_both (three_digits r.own) (32 ∷ (written_context r.left ++ (95 ∷ written_context r.right))) (digits_lack r.own)
    (lacks_both (written_context r.left) (95 ∷ written_context r.right) (context_lacks 10 refl r.left k.1) (context_lacks 10 refl r.right k.2)))

rule_lines : (rs : List Rule) → T (every writable rs) → T (every is_line (map written_rule rs))
rule_lines [] h = tt
rule_lines (r ∷ rs) h =
    let k = and_out (writable r) (every writable rs) h in
    and_in (is_line (written_rule r)) (every is_line (map written_rule rs)) (rule_line_lem r k.0) (rule_lines rs k.1)

-- the lines of a text of rules
pub text_lines : (t : List ℕ) (rs : List Rule) → TextOf rs t → T (every writable rs) → lines_of t ≡ map written_rule rs
text_lines t rs e h = the_lines (map written_rule rs) t (rule_lines rs h) e

-- a list of lines and the rules that they are read as
abbrev Reads : List (List ℕ) → List Rule → Type 0
Reads ls rs = map read_rule ls ≡ map rule rs

lines_out : (ls : List (List ℕ)) (rs : List Rule) → Reads ls rs → T (every (λ l. is_rule (read_rule l)) ls) → (ls ≡ map written_rule rs) × T (every writable rs) × (length ls ≡ length rs)
lines_out [] [] e h = (refl, tt, refl)
lines_out [] (r ∷ rs) e h = let z : ◌≡◌ {A = ℕ} 0 1 = cc in absurd (omega arith)
lines_out (l ∷ ls) [] e h = let z : ◌≡◌ {A = ℕ} 0 1 = cc in absurd (omega arith)
lines_out (l ∷ ls) (r ∷ rs) e h =
    let p : read_rule l ≡ rule r = cc in
    let q : map read_rule ls ≡ map rule rs = cc in
    let k = and_out (is_rule (read_rule l)) (every (λ l. is_rule (read_rule l)) ls) h in
    let i = (line_iff l r).0 (p, subst (λ (x : Line). T (is_rule x)) p k.0) in
    let j = lines_out ls rs q k.1 in
    (ap₂ {C = List (List ℕ)} (λ x xs. x ∷ xs) (sym i.0) j.0, and_in (writable r) (every writable rs) i.1 j.1, omega (arith, j.2))

lines_in : (rs : List Rule) → T (every writable rs) → Reads (map written_rule rs) rs × T (every (λ l. is_rule (read_rule l)) (map written_rule rs)) × (length (map written_rule rs) ≡ length rs)
lines_in [] h = (refl, tt, refl)
lines_in (r ∷ rs) h =
    let k = and_out (writable r) (every writable rs) h in
    let i = (line_iff (written_rule r) r).1 (refl, k.0) in
    let j = lines_in rs k.1 in (
      ap₂ {C = List Line} (λ x xs. x ∷ xs) i.0 j.0,
      and_in (is_rule (read_rule (written_rule r))) (every (λ l. is_rule (read_rule l)) (map written_rule rs)) (rw i.0 i.1) j.1,
      omega (arith, j.2),
    )

text_out : (t : List ℕ) (rs : List Rule) → T (is_text t) → Reads (lines_of t) rs → TextOf rs t × T (leb (length rs) 32 && every writable rs)
unfolding is_text
text_out t rs h e =
    let k = and_out (leb (length (lines_of t)) 32) (every (λ l. is_rule (read_rule l)) (lines_of t)) h in
    let i = lines_out (lines_of t) rs e k.1 in (
      subst (λ (ls : List (List ℕ)). Ended ls t) i.0 (of_lines t),
      and_in (leb (length rs) 32) (every writable rs) (subst (λ (n : ℕ). T (leb n 32)) i.2 k.0) i.1,
    )

text_in : (t : List ℕ) (rs : List Rule) → TextOf rs t → T (leb (length rs) 32 && every writable rs) → T (is_text t) × Reads (lines_of t) rs
unfolding is_text
text_in t rs e h =
    let k = and_out (leb (length rs) 32) (every writable rs) h in
    let i = lines_in rs k.1 in
    let s = sym (text_lines t rs e k.1) in (
      and_in (leb (length (lines_of t)) 32) (every (λ l. is_rule (read_rule l)) (lines_of t))
          (subst (λ (n : ℕ). T (leb n 32)) (sym i.2 ∙ ap length s) k.0)
          (subst (λ (ls : List (List ℕ)). T (every (λ l. is_rule (read_rule l)) ls)) s i.1),
      subst (λ (ls : List (List ℕ)). Reads ls rs) s i.0,
    )

pub text_iff : (t : List ℕ) (rs : List Rule) → (T (is_text t) × (map read_rule (lines_of t) ≡ map rule rs)) ↔ (TextOf rs t × T (leb (length rs) 32 && every writable rs))
text_iff t rs = (λ h. text_out t rs h.0 h.1, λ h. text_in t rs h.0 h.1)

-- lines that are rules are so of some rules
some_rules : (ls : List (List ℕ)) → T (every (λ l. is_rule (read_rule l)) ls) → (rs : List Rule) × Reads ls rs
some_rules [] h = ([], refl)
some_rules (l ∷ ls) h =
    let k = and_out (is_rule (read_rule l)) (every (λ l. is_rule (read_rule l)) ls) h in
    go (read_rule l) refl k.0 (some_rules ls k.1)
  where
    go : (x : Line) → read_rule l ≡ x → T (is_rule x) → (rs : List Rule) × Reads ls rs → (rs : List Rule) × Reads (l ∷ ls) rs
    go (rule r) e k i = (r ∷ i.0, ap₂ {C = List Line} (λ x xs. x ∷ xs) e i.1)
    go no_rule e k i = absurd k

pub is_text_iff : (t : List ℕ) → T (is_text t) ↔ ((rs : List Rule) × TextOf rs t × T (leb (length rs) 32 && every writable rs))
unfolding is_text
is_text_iff t = (
  λ h.
      let i = some_rules (lines_of t) (and_out (leb (length (lines_of t)) 32) (every (λ l. is_rule (read_rule l)) (lines_of t)) h).1 in
      let j = (text_iff t i.0).0 (h, i.1) in
      (i.0, j.0, j.1),
  λ h. ((text_iff t h.0).1 (h.1, h.2)).0,
)

same_rules : (rs ss : List Rule) → T (every writable rs) → T (every writable ss) → map written_rule rs ≡ map written_rule ss → rs ≡ ss
same_rules [] [] h k e = refl
same_rules [] (s ∷ ss) h k e = let z : ◌≡◌ {A = ℕ} 0 1 = cc in absurd (omega arith)
same_rules (r ∷ rs) [] h k e = let z : ◌≡◌ {A = ℕ} 0 1 = cc in absurd (omega arith)
same_rules (r ∷ rs) (s ∷ ss) h k e =
    let i = and_out (writable r) (every writable rs) h in
    let j = and_out (writable s) (every writable ss) k in
    let p : written_rule r ≡ written_rule s = cc in
    let q : map written_rule rs ≡ map written_rule ss = cc in
    ap₂ {C = List Rule} (λ x xs. x ∷ xs) (one_line r s i.0 j.0 p) (same_rules rs ss i.1 j.1 q)

-- whatever their number, a text stands for one list of rules
pub unambiguous_text : (t : List ℕ) (rs ss : List Rule) → TextOf rs t → TextOf ss t → T (every writable rs) → T (every writable ss) → rs ≡ ss
unambiguous_text t rs ss p q h k = same_rules rs ss h k (sym (text_lines t rs p h) ∙ text_lines t ss q k)

pub rules_of : (t : List ℕ) → T (is_text t) → (rs : List Rule) × TextOf rs t × T (every writable rs)
rules_of t h =
    let i = (is_text_iff t).0 h in
    (i.0, i.1, (and_out (leb (length i.0) 32) (every writable i.0) i.2).1)

-- a test of a text's lines is one of its rules
over_rules : (f : Line → Bool) (rs : List Rule) → T (every writable rs) → every (λ l. f (read_rule l)) (map written_rule rs) ≡ every (λ r. f (rule r)) rs
over_rules f [] h = refl
over_rules f (r ∷ rs) h =
    let k = and_out (writable r) (every writable rs) h in
    ap₂ (λ (a b : Bool). a && b) (ap f ((line_iff (written_rule r) r).1 (refl, k.0)).0) (over_rules f rs k.1)

pub over_text : (f : Line → Bool) (t : List ℕ) (rs : List Rule) → TextOf rs t → T (every writable rs) → every (λ l. f (read_rule l)) (lines_of t) ≡ every (λ r. f (rule r)) rs
over_text f t rs e h = ap (every (λ l. f (read_rule l))) (text_lines t rs e h) ∙ over_rules f rs h
