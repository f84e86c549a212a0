-- `letter_alone` meets its contract: the letters that are left decide whether one is the same.
use mathlib.Core.Bool.{not}
use mathlib.Core.Path.{sym, ap, ◌∙◌}
use native.Mathlib.Omega.{arith}
use lib.ListN.{get_or}
use lib.Dec.{eqb}
use borrow.Author.Tests.{eq-eqb, ne_eqb}
use Rattle.model.specs.RuleTables.{code_points}
use Rattle.model.proofs.Rest.{any_on, any_found, any_done}
use Rattle.letters.proofs.Laws.{letters_there}
use Rattle.letters.proofs.letter_alone.Goals as goal

pub returns-then-own-code_point : goal.returns-then-own-code_point
returns-then-own-code_point c =
    let cs = code_points c.args.image.now in
    let same = sym c.code_point-own.ensures ∙ c.if-own-code_point.true ∙ c.code_point.ensures in
    sym (ap not (c.loop-j.invariant ∙ any_found cs 0 c.loop-j.j (omega (arith, letters_there c.requires.0)) (eqb (get_or cs c.args.i 0)) (eq-eqb _ _ same)))

pub loop-j-preserved : goal.loop-j-preserved
loop-j-preserved c =
    let cs = code_points c.args.image.now in
    let unlike = ne_eqb _ _ (λ e. c.if-own-code_point.false (c.code_point-own.ensures ∙ e ∙ sym c.code_point.ensures)) in
    c.loop-j.invariant ∙ any_on cs 0 c.loop-j.j (omega (arith, letters_there c.requires.0)) (eqb (get_or cs c.args.i 0)) unlike

pub returns : goal.returns
returns c =
    let cs = code_points c.args.image.now in
    sym (ap not (c.loop-j.invariant ∙ any_done cs c.loop-j.j (omega (arith, letters_there c.requires.0)) (eqb (get_or cs c.args.i 0))))
