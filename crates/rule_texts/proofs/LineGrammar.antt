-- A line is read as a rule exactly when it is the line that the rule is written as; and no line is that of two.
use Prim.Native.Nat.{ℕ, ◌/◌, ◌%◌, ◌≤◌}
use mathlib.Core.Bool.{Bool, true, false, cond}
use mathlib.Core.Path.{◌≡◌, refl, sym, ap, ap₂, ◌∙◌, subst}
use mathlib.Core.Logic.{◌↔◌}
use mathlib.Core.List.{List, ◌∷◌, ◌++◌}
use lib.ListN.{drop}
use lib.Dec.{T, leb, leb→le, le→leb}
use native.Mathlib.Omega.{arith}
use Rattle.model.specs.Lists.{same_list}
use Rattle.model.proofs.Booleans.{and_out, and_in, out3, in3, same_out}
use Rattle.contexts.specs.Context.{pair, any, star, sequence, either, bracket}
use Rattle.contexts.specs.Meaning.{pair_number}
use Rattle.contexts.specs.Reader.{starts_with, Read, failed, got, read_pair, Written, read_context, is_right}
use Rattle.contexts.specs.Operators.{Operator, only-there, always-there, both, never-there, Rule}
use Rattle.contexts.proofs.Soundness.{starts_out}
use Rattle.rule_texts.specs.Line.{sign, three_digits, written_context, written_rule, may_stand, writable, up_to, after, has, rule, no_rule, Sign, operator, no_operator, signed, read_sign, line_with, after_own, after_sign, read_rule}
use Rattle.rule_texts.specs.Text.{is_rule}
use Rattle.rule_texts.proofs.Split.{whole_again, byte_there, first_part, second_part, is_there}
use Rattle.rule_texts.proofs.Digits.{pair_out, own_in}
use Rattle.rule_texts.proofs.Contexts.{context_iff, context_lacks}

-- an operator is read off its sign
sign_out : (t : List ℕ) (o : Operator) → read_sign t ≡ operator o → t ≡ sign o
sign_out t o e = first only-there (first always-there (first both (first never-there none))) e
  where
    none : no_operator ≡ operator o → t ≡ sign o
    none e = let z : ◌≡◌ {A = ℕ} 0 1 = cc in absurd (omega arith)

    first : {s : Sign} (p : Operator) → (s ≡ operator o → t ≡ sign o) → signed p t s ≡ operator o → t ≡ sign o
    first {s} p r e = go (same_list t (sign p)) (λ h. same_out t (sign p) h) e
      where
        go : (b : Bool) → (T b → t ≡ sign p) → cond b (operator p) s ≡ operator o → t ≡ sign o
        go true k e = let q : p ≡ o = cc in k tt ∙ ap sign q
        go false k e = r e

-- what stands after the own pair
record Rest (o : Operator) (own : ℕ) (t : List ℕ) (r : Rule) : Type 0 where
  by : r.operator ≡ o
  of : r.own ≡ own
  stood : t ≡ 32 ∷ (written_context r.left ++ (95 ∷ written_context r.right))
  stands_left : T (may_stand r.left)
  stands_right : T (may_stand r.right)

contexts_out : (o : Operator) (own : ℕ) (u : List ℕ) (r : Rule) → (b : Bool) → (T b → up_to 95 u ++ (95 ∷ after 95 u) ≡ u) → line_with b o own u ≡ rule r → T (is_rule (rule r)) → Rest o own (32 ∷ u) r
contexts_out o own u r false w e h = let z : ◌≡◌ {A = ℕ} 0 1 = cc in absurd (omega arith)
contexts_out o own u r true w e h =
    let q : record { operator = o; own = own; left = read_context (up_to 95 u); right = read_context (after 95 u) } ≡ r = cc in
    let k = and_out (is_right r.left) (is_right r.right) h in
    let i = (context_iff (up_to 95 u) r.left).0 (ap (λ (s : Rule). s.left) q, k.0) in
    let j = (context_iff (after 95 u) r.right).0 (ap (λ (s : Rule). s.right) q, k.1) in
    record {
      by = ap (λ (s : Rule). s.operator) (sym q);
      of = ap (λ (s : Rule). s.own) (sym q);
      stood = ap (λ (l : List ℕ). 32 ∷ l) (sym (w tt) ∙ ap₂ (λ (x y : List ℕ). x ++ (95 ∷ y)) (sym i.0) (sym j.0));
      stands_left = i.1;
      stands_right = j.1;
    }

rest_out : (o : Operator) (own : ℕ) (t : List ℕ) (r : Rule) → (b : Bool) → (T b → t ≡ 32 ∷ drop 1 t) → after_own b o own (drop 1 t) ≡ rule r → T (is_rule (rule r)) → Rest o own t r
rest_out o own t r false w e h = let z : ◌≡◌ {A = ℕ} 0 1 = cc in absurd (omega arith)
rest_out o own t r true w e h = subst (λ (l : List ℕ). Rest o own l r) (sym (w tt)) (contexts_out o own (drop 1 t) r (has 95 (drop 1 t)) (λ k. whole_again 95 (drop 1 t) k) e h)

line_out : (l : List ℕ) (r : Rule) → read_rule l ≡ rule r → T (is_rule (rule r)) → (written_rule r ≡ l) × T (writable r)
unfolding read_rule
line_out l r e h = go (read_sign (up_to 32 l)) refl (read_pair (after 32 l)) refl e
  where
    none : no_rule ≡ rule r → (written_rule r ≡ l) × T (writable r)
    none e = let z : ◌≡◌ {A = ℕ} 0 1 = cc in absurd (omega arith)

    go : (s : Sign) → read_sign (up_to 32 l) ≡ s → (x : Read) → read_pair (after 32 l) ≡ x → after_sign s x ≡ rule r → (written_rule r ≡ l) × T (writable r)
    go no_operator f x g e = none e
    go (operator o) f failed g e = none e
    go (operator o) f (got (pair a b d) t) g e =
        let p = pair_out (after 32 l) a b d t g in
        let q = rest_out o (pair_number a b d) t r (starts_with 32 t) (λ k. sym (starts_out 32 t k)) e h in
        let own : r.own ≤ 999 = omega (arith, p.small, q.of) in (
          rw (q.by, q.of, ← q.stood, ← p.stood, ← sign_out (up_to 32 l) o f) (whole_again 32 l (byte_there 32 l _ _ p.stood)),
          in3 (leb r.own 999) (may_stand r.left) (may_stand r.right) (le→leb r.own 999 own) q.stands_left q.stands_right,
        )
    go (operator o) f (got any t) g e = none e
    go (operator o) f (got (star c) t) g e = none e
    go (operator o) f (got (sequence c d) t) g e = none e
    go (operator o) f (got (either c d) t) g e = none e
    go (operator o) f (got (bracket c) t) g e = none e

contexts_in : (o : Operator) (own : ℕ) (v w : Written) → T (may_stand v) → T (may_stand w)
    → line_with (has 95 (written_context v ++ (95 ∷ written_context w))) o own (written_context v ++ (95 ∷ written_context w)) ≡ rule (record { operator = o; own = own; left = v; right = w })
contexts_in o own v w h k =
    let s = context_lacks 95 refl v h in
    let i = (context_iff (written_context v) v).1 (refl, h) in
    let j = (context_iff (written_context w) w).1 (refl, k) in
    rw (is_there 95 (written_context v) (written_context w), first_part 95 (written_context v) (written_context w) s, second_part 95 (written_context v) (written_context w) s, i.0, j.0) refl

signed_in : (o : Operator) (t : List ℕ) → read_rule (sign o ++ (32 ∷ t)) ≡ after_sign (operator o) (read_pair t)
unfolding read_rule
signed_in only-there t = refl
signed_in always-there t = refl
signed_in both t = refl
signed_in never-there t = refl

line_in : (r : Rule) → T (writable r) → read_rule (written_rule r) ≡ rule r
line_in r h =
    let k = out3 (leb r.own 999) (may_stand r.left) (may_stand r.right) h in
    let m = leb→le r.own 999 k.0 in
    let n : pair_number (r.own / 100) (r.own / 10 % 10) (r.own % 10) ≡ r.own = omega arith in
    let u = written_context r.left ++ (95 ∷ written_context r.right) in
    signed_in r.operator (three_digits r.own ++ (32 ∷ u))
    ∙ ap (after_sign (operator r.operator)) (own_in r.own (32 ∷ u) m)
    ∙ ap (λ (p : ℕ). line_with (has 95 u) r.operator p u) n
    ∙ contexts_in r.operator r.own r.left r.right k.1 k.2

pub line_iff : (l : List ℕ) (r : Rule) → ((read_rule l ≡ rule r) × T (is_rule (rule r))) ↔ ((written_rule r ≡ l) × T (writable r))
line_iff l r = (λ h. line_out l r h.0 h.1, λ h. (ap read_rule (sym h.0) ∙ line_in r h.1, right h.1))
  where
    right : T (writable r) → T (is_rule (rule r))
    right h =
        let k = out3 (leb r.own 999) (may_stand r.left) (may_stand r.right) h in
        and_in (is_right r.left) (is_right r.right)
        ((context_iff (written_context r.left) r.left).1 (refl, k.1)).1
        ((context_iff (written_context r.right) r.right).1 (refl, k.2)).1

pub one_line : (r s : Rule) → T (writable r) → T (writable s) → written_rule r ≡ written_rule s → r ≡ s
one_line r s h k e = let q : rule r ≡ rule s = sym (line_in r h) ∙ ap read_rule e ∙ line_in s k in cc
