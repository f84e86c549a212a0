-- `pair_at` meets its contract: a pair is its sides.
use Rattle.letters.proofs.Laws.{pair_at, sides_are}
use Rattle.letters.proofs.pair_at.Goals as goal

pub returns : goal.returns
returns c = sides_are (pair_at c.args.image.now c.args.p) c.lexical_side.ensures c.surface_side.ensures
