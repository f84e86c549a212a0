-- `code_point` meets its contract: the two-byte number where the law says.
use mathlib.Core.Path.{◌∙◌}
use native.Mathlib.Omega.{arith}
use Rattle.model.specs.Blocks.{kinds}
use Rattle.letters.proofs.Laws.{letter_start, letter_inside, code_point_at}
use Rattle.letters.proofs.code_point.Goals as goal

pub number_at-requires : goal.number_at-requires
unfolding kinds
number_at-requires c = omega (arith, letter_inside c.requires.0 c.args.i c.requires.1, letter_start c.requires.0 c.args.i c.requires.1)

pub returns : goal.returns
unfolding kinds
returns c = c.number_at.ensures.0 ∙ code_point_at c.requires.0 c.args.i _ c.requires.1 (omega (arith, letter_start c.requires.0 c.args.i c.requires.1))
