use mathlib.Core.Path.{◌≡◌}
use Rattle.letters.specs.Marks.{marks_of}
use Rattle.letters.proofs.MarkLaws.{letters_below}
use Rattle.letters.proofs.marks.letter_marks.Given as goal

abbrev pub invariant-loop-a : goal.invariant-loop-a
invariant-loop-a l = l.marks ≡ marks_of (letters_below l.a)
