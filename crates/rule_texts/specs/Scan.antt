-- The pair numbers of a text, found without reading it as contexts: three digits and three digits, whatever stands between them.
use Rattle.std.specs.Prelude.{ℕ, ◌-◌, cond, List, [], ◌∷◌}
use Rattle.contexts.specs.Meaning.{pair_number}
use Rattle.contexts.specs.Reader.{is_digit}

abbrev pub numbers_in : List ℕ → List ℕ
numbers_in [] = []
numbers_in (x ∷ []) = []
numbers_in (x ∷ y ∷ []) = []
numbers_in (x ∷ y ∷ z ∷ t) = cond (is_digit x) (pair_number (x - 48) (y - 48) (z - 48) ∷ numbers_in t) (numbers_in (y ∷ z ∷ t))
