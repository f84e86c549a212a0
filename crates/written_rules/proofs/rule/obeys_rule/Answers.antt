-- At each place between the boundaries the operator is asked of what stands there; one place where it is not kept is enough.
use native.Mathlib.Omega.{arith}
use Prim.Native.Nat.{ℕ, ◌-◌}
use mathlib.Core.Bool.{Bool, ◌&&◌}
use mathlib.Core.Path.{◌≡◌, sym, ap, ◌∙◌}
use lib.ListN.{length}
use Rattle.relations.specs.Sets.{holds}
use Rattle.rule_texts.specs.Parts.{divided_rule}
use Rattle.written_rules.specs.Places.{kept_at}
use Rattle.written_rules.proofs.Judging.{all_false, all_more, test_at}
use Rattle.written_rules.proofs.rule.obeys_rule.Goals as goal
use Rattle.written_rules.proofs.rule.obeys_rule.Goals.{After-asked, then-has, else-has}

module _ (c : After-asked) where
  abbrev test : ℕ → Bool
  test = kept_at (divided_rule c.args.rule) c.args.letter c.args.pairing.pairs.now c.args.pairing.letters.now

  abbrev i : ℕ
  i = c.loop-i.i

  abbrev before : Bool
  before = holds c.left_places-ending.result i

  abbrev after : Bool
  after = holds c.right_places-beginning.result i

  both : c.if-has.there ≡ (before && after)
  both = elim c.if-has.branch [
    | then-has w ↦ w.there-is ∙ w.has-there.ensures ∙ sym (ap (λ (b : Bool). b && after) (sym c.has.ensures ∙ w.if-has.true))
    | else-has w ↦ w.there-is ∙ w.if-has.false ∙ sym (ap (λ (b : Bool). b && after) (sym c.has.ensures ∙ w.if-has.false))
  ]

  told : test (i - 1) ≡ c.asked.result
  told =
      let p = c.args.pairing in
      let asked = (rw (c.from.ensures, c.from-in-loop-i.ensures, both) at c.asked.ensures) in
      test_at (divided_rule c.args.rule) c.args.letter p.pairs.now p.letters.now i c.left_places-ending.result c.right_places-beginning.result c.asked.result
      c.loop-i.auto.i (omega (arith, c.loop-i-test.true)) c.left_places-ending.ensures c.right_places-beginning.ensures asked

pub returns-then-not-asked : goal.returns-then-not-asked
returns-then-not-asked c =
    let p = (goal.at.returns-then-not-asked c).After-asked in
    all_false (test p) (length c.args.pairing.pairs.now - 2) (c.loop-i.i - 1) (omega (arith, c.loop-i-test.true, c.loop-i.auto.i)) (told p ∙ c.if-not-asked.true)

pub loop-i-preserved : goal.loop-i-preserved
loop-i-preserved c =
    let p = (goal.at.loop-i-preserved c).After-asked in
    all_more (test p) c.loop-i.i c.loop-i.auto.i c.loop-i.invariant (told p ∙ c.if-not-asked.false)
