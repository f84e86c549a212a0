-- An image that passed the image check, as facts for the code that reads it; no code needs what test 14 says.
use Rattle.std.specs.Prelude.{ℕ, true, ◌≡◌, List}
use Rattle.model.specs.Blocks.{Header}
use Rattle.model.specs.Refusals.{right_pairs, right_tables, right_columns, right_entries}
use Rattle.image.specs.Laid.{Laid}

pub record Accepted (image : List ℕ) (h : Header) : Type 0 where
  pub laid : Laid image h
  pub pairs_right : right_pairs image ≡ true
  pub tables_right : right_tables image ≡ true
  pub columns_right : right_columns image ≡ true
  pub entries_right : right_entries image ≡ true
