-- The numbers that stand in a context's text are the pairs of the context, so each is asked whether it is known.
use borrow.Author.Tests.{lt-ltb, le-ltb}
use mathlib.Core.Bool.{Bool, true, ◌&&◌, false≢true}
use mathlib.Core.Path.{◌≡◌, refl, sym, ap, ap₂, ◌∙◌}
use mathlib.Core.List.{List}
use Prim.Native.Nat.{ℕ}
use lib.Dec.{ltb}
use Rattle.model.specs.Lists.{every}
use Rattle.model.proofs.Lists.{every_append}
use Rattle.contexts.specs.Reader.{read_context}
use Rattle.rule_texts.specs.Line.{rule, read_rule}
use Rattle.rule_texts.specs.Parts.{divided_rule}
use Rattle.rule_texts.specs.Scan.{numbers_in}
use Rattle.rule_texts.specs.Text.{is_rule, pairs_of, is_known, knows_pairs}
use Rattle.rule_texts.specs.declared.line.Parts.{Parts}
use Rattle.rule_texts.proofs.Scan.{scanned}
use Rattle.rule_texts.proofs.Dividing.{contexts_right}
use Rattle.rule_texts.proofs.line.knows_pairs.Goals as goal
use Rattle.rule_texts.proofs.line.knows_pairs.Goals.{then-parts-pairs, else-parts-pairs}

by_parts : (line : List ℕ) (pairs : ℕ) (p : Parts) → rule (divided_rule p) ≡ read_rule line → is_rule (read_rule line) ≡ true
    → knows_pairs pairs (read_rule line) ≡ (ltb p.own pairs && (every (is_known pairs) (numbers_in p.left.now) && every (is_known pairs) (numbers_in p.right.now)))
by_parts line pairs p d e =
    let r = contexts_right line p d e in
    let known = is_known pairs in
    ap (knows_pairs pairs) (sym d)
    ∙ ap (λ (b : Bool). ltb p.own pairs && b)
    (every_append known (pairs_of (read_context p.left.now)) (pairs_of (read_context p.right.now))
    ∙ ap₂ (λ (u v : List ℕ). every known u && every known v) (sym (scanned p.left.now r.0)) (sym (scanned p.right.now r.1)))

pub returns-then-numbers_known : goal.returns-then-numbers_known
returns-then-numbers_known c =
    let a = c.args in
    let p = c.in-Some.parts in
    let all = by_parts a.line.now a.pairs p c.in-Some.ensures.rule c.requires in
    elim c.if-parts-pairs.branch [
      | then-parts-pairs w ↦ let left = sym w.numbers_known.ensures ∙ sym w.value-is ∙ c.if-numbers_known.true in
          c.numbers_known-then-numbers_known.ensures ∙ sym (all ∙ rw (lt-ltb p.own a.pairs w.if-parts-pairs.true, left) refl)
      | else-parts-pairs w ↦ absurd (false≢true (sym (le-ltb p.own a.pairs w.if-parts-pairs.false) ∙ sym w.value-is ∙ c.if-numbers_known.true))
    ]

pub returns-else-numbers_known : goal.returns-else-numbers_known
returns-else-numbers_known c =
    let a = c.args in
    let p = c.in-Some.parts in
    let all = by_parts a.line.now a.pairs p c.in-Some.ensures.rule c.requires in
    c.if-numbers_known.false
    ∙ elim c.if-parts-pairs.branch [
      | then-parts-pairs w ↦ sym (all ∙ rw (lt-ltb p.own a.pairs w.if-parts-pairs.true, sym w.numbers_known.ensures ∙ sym w.value-is ∙ c.if-numbers_known.false) refl)
      | else-parts-pairs w ↦ sym (all ∙ rw (le-ltb p.own a.pairs w.if-parts-pairs.false) refl)
    ]
