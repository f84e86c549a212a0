use mathlib.Core.Path.{◌≡◌}
use mathlib.Core.List.{◌++◌}
use lib.ListN.{length, take, drop}
use lib.Dec.{leb}
use Rattle.model.specs.Lists.{every}
use Rattle.model.specs.Spelling.{word_spelled}
use Rattle.spelling.proofs.spell_points.Given as goal

abbrev pub invariant-loop-i : goal.invariant-loop-i
invariant-loop-i l =
    (l.word ≡ take l.i (word_spelled l.image l.points) ++ drop l.i l.initial.word)
    × (length l.word ≡ length l.initial.word)
    × (l.right ≡ every (leb 2) (take l.i (word_spelled l.image l.points)))
