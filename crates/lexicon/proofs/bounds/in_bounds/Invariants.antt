use mathlib.Core.Path.{◌≡◌}
use Rattle.model.specs.Lists.{below, every}
use Rattle.lexicon.specs.Bounds.{in_row}
use Rattle.lexicon.proofs.bounds.in_bounds.Given as goal

abbrev pub invariant-loop-i : goal.invariant-loop-i
invariant-loop-i l = l.inside ≡ every (in_row l.low l.high l.row l.image l.at) (below l.i)
