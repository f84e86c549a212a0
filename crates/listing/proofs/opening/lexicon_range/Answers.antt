-- `lexicon_range` meets its contract: two numbers of the index.
use native.Mathlib.Omega.{arith}
use mathlib.Core.Path.{◌∙◌}
use Rattle.image.specs.Header.{header_of}
use Rattle.listing.proofs.Ranges.{row_inside, row_low, row_high}
use Rattle.listing.proofs.opening.lexicon_range.Goals as goal

pub number_at-requires : goal.number_at-requires
number_at-requires c = omega (arith, row_inside c.args.image.now c.args.index.now (header_of c.args.h) c.requires.accepted c.requires.index_value c.args.x c.requires.x_lt_lexicons)

pub number_at-requires-2 : goal.number_at-requires-2
number_at-requires-2 c = omega (arith, row_inside c.args.image.now c.args.index.now (header_of c.args.h) c.requires.accepted c.requires.index_value c.args.x c.requires.x_lt_lexicons)

pub returns : goal.returns
returns c = (c.number_at.ensures.0 ∙ row_low c.args.image.now c.args.index.now (header_of c.args.h) c.requires.accepted c.requires.index_value c.args.x c.requires.x_lt_lexicons, c.number_at-2.ensures.0 ∙ row_high c.args.image.now c.args.index.now (header_of c.args.h) c.requires.accepted c.requires.index_value c.args.x c.requires.x_lt_lexicons)
