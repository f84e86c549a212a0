-- `filter::onward::step_back` meets its contract.
use mathlib.Core.Path.{ap, ◌∙◌}
use lib.ListN.{get_or}
use Rattle.positions.specs.Masks.{back_spread_mask}
use Rattle.filter.specs.Unions.{step_back_of}
use Rattle.filter.proofs.onward.step_back.Goals as goal

pub over_back-to-requires : goal.over_back-to-requires
over_back-to-requires c = tt

pub spread_back-requires : goal.spread_back-requires
spread_back-requires c = tt

pub returns : goal.returns
unfolding step_back_of
returns c =
    c.spread_back.ensures ∙ ap (back_spread_mask 8 (get_or c.args.masks.now 0 0)) c.over_back-to.ensures
