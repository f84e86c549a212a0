-- Rows of 256 bytes, one for each surface letter s: how many lexical letters pair with s, and which, 0 for an insertion.
use Rattle.std.specs.Prelude.{ℕ, ◌+◌, ◌*◌, ◌<◌, ◌≤◌, List, length}
use Rattle.model.specs.Lists.{byte}

module _ (rows : List ℕ) where
  abbrev pub row_count : ℕ → ℕ
  row_count s = byte rows (256 * s)

  abbrev pub row_letter : ℕ → ℕ → ℕ
  row_letter s k = byte rows (256 * s + 1 + k)

  pub record Rowed (s : ℕ) : Type 0 where
    pub inside : 256 * s + 256 ≤ length rows
    pub count_in : row_count s < 256
    pub letters_in : (k : ℕ) → k < row_count s → row_letter s k < 128
