use mathlib.Core.Bool.{◌&&◌}
use mathlib.Core.Path.{◌≡◌}
use lib.ListN.{take, drop}
use Rattle.model.specs.Lists.{every, is_zero}
use Rattle.image.proofs.is_blank.Given as goal

abbrev pub invariant-loop-i : goal.invariant-loop-i
invariant-loop-i l = (l.blank && every is_zero (drop l.i (take l.end l.block))) ≡ every is_zero (drop l.from (take l.end l.block))
