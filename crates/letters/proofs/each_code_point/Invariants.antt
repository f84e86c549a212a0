use mathlib.Core.Path.{◌≡◌}
use lib.ListN.{drop}
use Rattle.model.specs.Lists.{every}
use Rattle.model.specs.RuleTables.{code_points, is_code_point}
use Rattle.letters.proofs.each_code_point.Given as goal

abbrev pub invariant-loop-i : goal.invariant-loop-i
invariant-loop-i l = every is_code_point (code_points l.image) ≡ every is_code_point (drop l.i (code_points l.image))
