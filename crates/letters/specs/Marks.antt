-- Marked letters: a table of 256 bytes, 1 at each letter that is marked.
use Rattle.std.specs.Prelude.{ℕ, Bool, ◌&&◌, not, cond, List, map, eqb}
use Rattle.model.specs.Lists.{below, is_zero, byte}
use Rattle.model.specs.Refusals.{is_lexical}

abbrev pub mark : Bool → ℕ
mark b = cond b 1 0

unfoldable pub marks_of : (ℕ → Bool) → List ℕ
marks_of f = map (λ a. mark (f a)) (below 256)

abbrev pub is_marked : List ℕ → ℕ → Bool
is_marked marks a = eqb (byte marks a) 1

-- a letter, not the null, that some pair has on its lexical side
abbrev pub is_form_letter : List ℕ → ℕ → Bool
is_form_letter image a = not (is_zero a) && is_lexical image a
