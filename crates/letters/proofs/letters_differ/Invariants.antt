use mathlib.Core.Path.{◌≡◌}
use lib.ListN.{drop}
use lib.Dec.{eqb}
use Rattle.model.specs.Lists.{distinct}
use Rattle.model.specs.RuleTables.{code_points}
use Rattle.letters.proofs.letters_differ.Given as goal

abbrev pub invariant-loop-i : goal.invariant-loop-i
invariant-loop-i l = distinct eqb (code_points l.image) ≡ distinct eqb (drop l.i (code_points l.image))
