-- `letters_differ` meets its contract: the letters that are left decide.
use mathlib.Core.Path.{sym, ◌∙◌}
use native.Mathlib.Omega.{arith}
use lib.Dec.{eqb}
use Rattle.model.specs.RuleTables.{code_points}
use Rattle.model.proofs.Rest.{distinct_on, distinct_fails, distinct_done}
use Rattle.letters.proofs.Laws.{letters_there}
use Rattle.letters.proofs.letters_differ.Goals as goal

pub returns-then-not-letter_alone : goal.returns-then-not-letter_alone
returns-then-not-letter_alone c =
    let image = c.args.image.now in
    sym (c.loop-i.invariant ∙ distinct_fails (code_points image) 0 c.loop-i.i (omega (arith, letters_there c.requires)) eqb (sym c.letter_alone.ensures ∙ c.if-not-letter_alone.true))

pub loop-i-preserved : goal.loop-i-preserved
loop-i-preserved c =
    let image = c.args.image.now in
    c.loop-i.invariant ∙ distinct_on (code_points image) 0 c.loop-i.i (omega (arith, letters_there c.requires)) eqb (sym c.letter_alone.ensures ∙ c.if-not-letter_alone.false)

pub returns : goal.returns
returns c =
    let image = c.args.image.now in
    sym (c.loop-i.invariant ∙ distinct_done (code_points image) c.loop-i.i (omega (arith, letters_there c.requires)) eqb)
