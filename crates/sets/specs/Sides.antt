-- The code's struct of a column's sides as the model's, what sides that name no set match, and the pairs by number.
use Rattle.std.specs.Prelude.{ℕ, ◌+◌, Bool, ◌&&◌, ◌||◌, List, get_or, eqb}
use Rattle.model.specs.Lists.{byte}
use Rattle.model.specs.RuleTables as model
use Rattle.sets.specs.declared.sides.Sides.{Sides}

abbrev pub sides_of : Sides → model.Sides
sides_of s = record { lexical = s.lexical.0; surface = s.surface.0 }

-- a lexical side and the surface side after it
abbrev pub sides_from : List ℕ → ℕ → model.Sides
sides_from bytes at = record { lexical = byte bytes at; surface = byte bytes (at + 1) }

-- a side that names no set matches its own letter, or any where it is 255
abbrev pub meets_side : ℕ → ℕ → Bool
meets_side side letter = eqb side 255 || eqb side letter

unfoldable pub meets : model.Sides → model.Pair → Bool
meets c p = meets_side c.lexical p.lexical && meets_side c.surface p.surface

-- pair p, the boundary pair being number P
abbrev pub pair_number : List ℕ → ℕ → model.Pair
pair_number image p = get_or (model.pairs_and_boundary image) p model.boundary_pair
