use mathlib.Core.Path.{◌≡◌}
use Rattle.letters.specs.Marks.{marks_of}
use Rattle.letters.proofs.MarkLaws.{lexical_before}
use Rattle.letters.proofs.marks.lexical_marks.Given as goal

abbrev pub invariant-loop-p : goal.invariant-loop-p
invariant-loop-p l = l.marks ≡ marks_of (lexical_before l.image l.p)
