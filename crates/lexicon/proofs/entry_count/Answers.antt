-- `entry_count` meets its contract: the number where the lexicon's record begins.
use native.Mathlib.Omega.{arith}
use mathlib.Core.Path.{◌∙◌}
use Rattle.model.specs.Blocks.{kinds}
use Rattle.image.specs.Header.{header_of}
use Rattle.lexicon.proofs.Laws.{count_start, count_inside, count_number}
use Rattle.lexicon.proofs.entry_count.Goals as goal

pub overflow_mul-first_block : goal.overflow_mul-first_block
unfolding kinds
overflow_mul-first_block c = omega (arith, c.first_block.ensures)

pub overflow_add-first_block : goal.overflow_add-first_block
unfolding kinds
overflow_add-first_block c = omega (arith, c.first_block.ensures)

pub number_at-requires : goal.number_at-requires
unfolding kinds
number_at-requires c =
    let image = c.args.image.now in
    let h = header_of c.args.h in
    omega (arith, count_inside image h c.requires.laid c.args.x c.requires.x_lt_lexicons, count_start image h c.requires.laid c.args.x c.requires.x_lt_lexicons, c.first_block.ensures)

pub returns : goal.returns
unfolding kinds
returns c =
    let image = c.args.image.now in
    let h = header_of c.args.h in
    (c.number_at.ensures.0 ∙ count_number image h c.requires.laid c.args.x _ (omega (arith, count_start image h c.requires.laid c.args.x c.requires.x_lt_lexicons, c.first_block.ensures)), c.number_at.ensures.1)
