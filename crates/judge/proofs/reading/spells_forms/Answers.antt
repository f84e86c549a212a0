-- `spells_forms` meets its contract: the pairs that are left and the letters that are left decide.
use borrow.Author.Rules.{rules}
use borrow.Author.Tests.{not-true, not-false}
use native.Mathlib.Omega.{arith}
use mathlib.Core.Bool.{not, not-not}
use mathlib.Core.Path.{◌≡◌, refl, sym, ap, ◌∙◌}
use mathlib.Core.List.{List}
use Prim.Native.Nat.{ℕ, ◌+◌, ◌<◌}
use lib.ListN.{length, get_or, drop}
use Rattle.model.specs.Lists.{same_list}
use Rattle.model.specs.GrammarOf.{grammar_of}
use Rattle.model.specs.Readings.{spelled}
use Rattle.letters.proofs.Laws.{laid_pairs}
use Rattle.rules.specs.Paths.{forms_of}
use Rattle.judge.proofs.PairingLaws.{listed_at, lexical_is, spells_null, spells_other, spells_letter, spells_end, told_same, told_other}
use Rattle.judge.proofs.reading.spells_forms.Goals as goal
use Rattle.judge.proofs.reading.spells_forms.Goals.{else-side-ne0, then-side-ne0+else-ne}
use Rattle.judge.proofs.reading.spells_forms.Goals.{After-lexical_side-side}

-- the lexical side of the pair that is passed
module _ (c : After-lexical_side-side) where
  abbrev side : ℕ → ℕ
  side = (grammar_of c.args.image.now).lexical

  abbrev ps : List ℕ
  ps = c.args.pairing.now

  abbrev forms : List ℕ
  forms = forms_of c.args.image.now c.args.path.now

  abbrev i : ℕ
  i = c.loop-p.p-index

  abbrev t : ℕ
  t = c.loop-p.t

  abbrev inside : i < length ps
  inside = c.loop-p-test.true

  this : c.lexical_side-side.result.0 ≡ side (get_or ps i 0)
  this = lexical_is c.args.image.now c.from.ensures c.lexical_side-side.ensures

  some : (c.lexical_side-side.result.0 ≡ 0 → ⊥) → side (get_or ps i 0) ≡ 0 → ⊥
  some n z = n (this ∙ z)

pub loop-p-init : goal.loop-p-init
loop-p-init c = (search rules, refl)

pub lexical_side-side-requires : goal.lexical_side-side-requires
lexical_side-side-requires c =
    let laid = c.requires.accepted.laid in
    let here = listed_at c.args.image.now c.args.pairing.now c.loop-p.p-index c.requires.entered.1 c.loop-p-test.true in
    (laid, omega (arith, laid_pairs laid, here, c.from.ensures))

pub letter_at-requires : goal.letter_at-requires
letter_at-requires c = record { accepted = c.requires.accepted; entered = c.requires.entered.0 }

pub returns-then-ne : goal.returns-then-ne
returns-then-ne c =
    let at = (goal.at.returns-then-ne c).After-lexical_side-side in
    let told = c.letter_at in
    let unlike = not-true _ (sym c.ne.ensures ∙ c.if-ne.true) in
    let other = told_other _ (λ x y. refl) (forms at) (t at) told.result c.lexical_side-side.result told.ensures unlike in
    sym (spells_other (side at) (ps at) (forms at) (i at) (t at) (inside at) (some at c.if-side-ne0.true) (λ h z. other h (z ∙ sym (this at)))) ∙ c.loop-p.invariant.1

pub loop-p-preserved : goal.loop-p-preserved
loop-p-preserved c =
    let at = (goal.at.loop-p-preserved c).After-lexical_side-side in
    let left = λ (n : ℕ). same_list (spelled (side at) (drop (i at + 1) (ps at))) (drop n (forms at)) in
    elim c.if-side-ne0.branch [
      | then-side-ne0+else-ne w ↦ (
        omega (arith, w.t-is),
        let told = w.letter_at in
            let alike = not-false _ (sym w.ne.ensures ∙ w.if-ne.false) in
            let same = told_same _ (λ x y. refl) (forms at) (t at) told.result c.lexical_side-side.result told.ensures alike in
            ap left w.t-is ∙ sym (spells_letter (side at) (ps at) (forms at) (i at) (t at) (inside at) (some at w.if-side-ne0.true) same.0 (same.1 ∙ this at)) ∙ c.loop-p.invariant.1,
      )
      | else-side-ne0 w ↦ (
        omega (arith, w.t-is),
        ap left w.t-is ∙ sym (spells_null (side at) (ps at) (forms at) (i at) (t at) (inside at) (sym (this at) ∙ w.if-side-ne0.false)) ∙ c.loop-p.invariant.1,
      )
    ]

pub letter_at-requires-2 : goal.letter_at-requires-2
letter_at-requires-2 c = record { accepted = c.requires.accepted; entered = c.requires.entered.0 }

pub returns : goal.returns
returns c =
    let forms = forms_of c.args.image.now c.args.path.now in
    let told = c.letter_at-2 in
    let end = spells_end (grammar_of c.args.image.now).lexical c.args.pairing.now forms c.loop-p.p-index c.loop-p.t c.loop-p-test.false told.result told.ensures in
    sym (not-not c.is_none.result) ∙ ap not (sym c.is_none.ensures) ∙ sym end ∙ c.loop-p.invariant.1
