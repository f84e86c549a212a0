-- The test behind the candidates of a lexical letter.
use Rattle.std.specs.Prelude.{ℕ, Bool, ◌||◌, List, get_or, eqb}
use Rattle.model.specs.Lists.{is_zero}
use Rattle.model.specs.RuleTables.{pairs, boundary_pair}

abbrev pub is_candidate : List ℕ → ℕ → ℕ → Bool
is_candidate image a p = let x = (get_or (pairs image) p boundary_pair).lexical in is_zero x || eqb x a
