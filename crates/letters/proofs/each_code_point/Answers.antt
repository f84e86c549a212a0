-- `each_code_point` meets its contract: the letters that are left decide.
use mathlib.Core.Path.{sym, ap, ◌∙◌}
use native.Mathlib.Omega.{arith}
use Rattle.model.specs.RuleTables.{code_points, is_code_point}
use Rattle.model.proofs.Rest.{every_on, every_fails, every_done}
use Rattle.letters.proofs.Laws.{letters_there}
use Rattle.letters.proofs.each_code_point.Goals as goal

pub returns-then-not-is_code_point : goal.returns-then-not-is_code_point
returns-then-not-is_code_point c =
    let image = c.args.image.now in
    let tested = sym (c.is_code_point.ensures ∙ ap is_code_point c.code_point.ensures) in
    sym (c.loop-i.invariant ∙ every_fails (code_points image) 0 c.loop-i.i (omega (arith, letters_there c.requires)) is_code_point (tested ∙ c.if-not-is_code_point.true))

pub loop-i-preserved : goal.loop-i-preserved
loop-i-preserved c =
    let image = c.args.image.now in
    let tested = sym (c.is_code_point.ensures ∙ ap is_code_point c.code_point.ensures) in
    c.loop-i.invariant ∙ every_on (code_points image) 0 c.loop-i.i (omega (arith, letters_there c.requires)) is_code_point (tested ∙ c.if-not-is_code_point.false)

pub returns : goal.returns
returns c =
    let image = c.args.image.now in
    sym (c.loop-i.invariant ∙ every_done (code_points image) c.loop-i.i (omega (arith, letters_there c.requires)) is_code_point)
