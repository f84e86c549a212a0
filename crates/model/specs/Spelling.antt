-- Document 02, (m): code points as letters of the alphabet, a capital that is none as its lower case.
use Rattle.std.specs.Prelude.{ℕ, suc, cond, List, [], ◌∷◌, map, eqb}
use Rattle.folding.specs.Folding.{fold}
use Rattle.model.specs.Lists.{is_zero, numbers}
use Rattle.model.specs.RuleTables.{code_points}

-- the place of a code point among those of letters a, a + 1, ..; 0 where it is none
abbrev pub letter_from : ℕ → ℕ → List ℕ → ℕ
letter_from a c [] = 0
letter_from a c (x ∷ xs) = cond (eqb x c) a (letter_from (suc a) c xs)

module _ (image : List ℕ) where
  -- the letter that has a code point, "code point of letter 1, 2, .. L"; 0 where none has
  unfoldable pub letter_of : ℕ → ℕ
  letter_of c = letter_from 1 c (code_points image)

  -- "A code point that is itself in the alphabet is never folded, so the letter Z of luZ stays.": another is folded and then looked up
  unfoldable pub letter_spelled : ℕ → ℕ
  letter_spelled c = let own = letter_of c in cond (is_zero own) (letter_of (fold c)) own

  -- "code points, two bytes each, become letter numbers"
  unfoldable pub word_spelled : List ℕ → List ℕ
  word_spelled points = map letter_spelled (numbers points)
