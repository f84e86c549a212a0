use Prim.Native.Nat.{◌+◌}
use mathlib.Core.Path.{◌≡◌}
use lib.ListN.{drop}
use Rattle.model.specs.RuleTables.{code_points}
use Rattle.model.specs.Spelling.{letter_from, letter_of}
use Rattle.spelling.proofs.letter_of.Given as goal

abbrev pub invariant-loop-i : goal.invariant-loop-i
invariant-loop-i l = letter_of l.image l.c ≡ letter_from (l.i + 1) l.c (drop l.i (code_points l.image))
