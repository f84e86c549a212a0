-- `letter_of` meets its contract: the letters that are left decide.
use Prim.Native.Nat.{◌+◌, ◌<◌}
use native.Mathlib.Numerals.{add-one}
use native.Mathlib.Omega.{arith}
use mathlib.Core.Path.{◌≡◌, refl, sym, ap, ◌∙◌}
use lib.ListN.{length}
use Rattle.std.specs.Prelude.{Some}
use Rattle.model.specs.RuleTables.{code_points}
use Rattle.model.specs.Spelling.{letter_of}
use Rattle.letters.proofs.Laws.{laid_here, laid_letters, length_code_points}
use Rattle.spelling.specs.Answers.{if_letter}
use Rattle.spelling.proofs.Letters.{letter_found, letter_on, letter_missed}
use Rattle.spelling.proofs.letter_of.Goals as goal
use Rattle.spelling.proofs.letter_of.Goals.{After-code_point}

pub loop-i-init : goal.loop-i-init
unfolding letter_of
loop-i-init c = refl

pub code_point-requires : goal.code_point-requires
code_point-requires c = let l = c.requires in (laid_here l, omega (arith, laid_letters l))

-- the letter looked at in a turn
inside : (c : After-code_point) → c.loop-i.i < length (code_points c.args.image.now)
inside c = omega (arith, laid_letters c.requires, length_code_points c.args.image.now)

pub overflow_cast-result : goal.overflow_cast-result
overflow_cast-result c = omega (arith, c.requires.limits.letters_most)

pub returns-then-code_point-c : goal.returns-then-code_point-c
returns-then-code_point-c c =
    let a = c.args in
    let i = c.loop-i.i in
    let here = (goal.at.returns-then-code_point-c c).After-code_point in
    let found : letter_of a.image.now a.c ≡ i + 1 = c.loop-i.invariant ∙ letter_found (code_points a.image.now) a.c i (inside here) (sym c.code_point.ensures ∙ c.if-code_point-c.true) in
    ap Some (add-one i) ∙ sym (ap if_letter (found ∙ add-one i))

pub loop-i-preserved : goal.loop-i-preserved
loop-i-preserved c =
    let here = (goal.at.loop-i-preserved c).After-code_point in
    c.loop-i.invariant ∙ letter_on (code_points c.args.image.now) c.args.c c.loop-i.i (inside here) (λ e. c.if-code_point-c.false (c.code_point.ensures ∙ e))

pub returns : goal.returns
returns c =
    let a = c.args in
    let past = letter_missed (code_points a.image.now) a.c c.loop-i.i (omega (arith, laid_letters c.requires, length_code_points a.image.now)) in
    sym (ap if_letter (c.loop-i.invariant ∙ past))
