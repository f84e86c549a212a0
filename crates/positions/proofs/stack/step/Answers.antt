-- `positions::stack::step` meets its contract.
use mathlib.Core.Path.{ap, ◌∙◌}
use lib.ListN.{get_or}
use Rattle.positions.specs.Masks.{spread_mask}
use Rattle.positions.specs.Stack.{step_of}
use Rattle.positions.proofs.stack.step.Goals as goal

pub over-to-requires : goal.over-to-requires
over-to-requires c = (c.requires.filled.letters_in c.args.a, c.requires.a_bound.1)

pub spread-requires : goal.spread-requires
spread-requires c = (c.requires.filled.letters_in 0, c.over-to.ensures.1)

pub returns : goal.returns
unfolding step_of
returns c =
    (c.spread.ensures.0 ∙ ap (spread_mask 8 (get_or c.args.masks.now 0 0)) c.over-to.ensures.0, c.spread.ensures.1)
