-- What the choice of columns is handed, a table and its column count, and what it gives.
use Rattle.std.specs.Prelude.{ℕ, ◌≤◌, ◌≡◌, List, map, length}
use Rattle.model.specs.RuleTables.{letter_sets, pairs_and_boundary, column_count, column_for}

-- a table whose columns can be read: it has this many
pub record Columned (t : List ℕ) (columns : ℕ) : Type 0 where
  pub count : columns ≡ column_count t
  pub most : columns ≤ 16
  pub long : length t ≡ 506

-- the columns of a table that the pairs and the boundary pair take
abbrev pub columns_by : List ℕ → List ℕ → List ℕ
columns_by image t = map (column_for (letter_sets image) (pairs_and_boundary image) t) (pairs_and_boundary image)
