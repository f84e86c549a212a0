-- A line as it comes in, the fields in it, and what is told of them.
use Rattle.std.specs.Prelude.{ℕ, min, cond, ◌≡◌, List, [], ◌∷◌, ◌++◌, length, set, take, drop, ltb, Option, Some, None}
use Rattle.model.specs.Lines as model
use Rattle.model.specs.Lines.{fields_of, is_number, value_of}

-- of a line that has begun with l, the first n bytes of the buffer are all of it, or its first 256
pub record Begun (buffer : List ℕ) (n : ℕ) (l : List ℕ) : Type 0 where
  pub many : n ≡ min (length l) 256
  pub bytes : take n buffer ≡ take 256 l

-- the buffer after one more byte of a line of which n are kept: there is room for 256
unfoldable pub line_after : List ℕ → ℕ → ℕ → List ℕ
line_after buffer n b = cond (ltb n 256) (set buffer n b) buffer

-- the number that a field is, where it is one
unfoldable pub number_of : List ℕ → Option ℕ
number_of field = cond (is_number field) (Some (value_of field)) None

-- the values of the fields before the first that is no number
unfoldable pub first_values : List (List ℕ) → List ℕ
first_values [] = []
first_values (f ∷ fs) = cond (is_number f) (value_of f ∷ first_values fs) []

-- the lent buffer after a line was read: these values, and what it held before
abbrev pub word_after : List ℕ → List ℕ → List ℕ
word_after line word = let values = first_values (fields_of line) in values ++ drop (length values) word

-- the code's line as the model's: how many letters it has, which stand in the buffer, or none where it is unread
abbrev pub line_with : List ℕ → Option ℕ → model.Line
line_with buffer (Some n) = model.Line.letters (take n buffer)
line_with buffer None = model.Line.unread

abbrev pub letter_count : Option ℕ → ℕ
letter_count (Some n) = n
letter_count None = 0
