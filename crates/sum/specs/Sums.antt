-- A block's bytes 0 to 503 as 63 rows of 8, nine rows to a strip: the sums of its strips and columns.
use Rattle.std.specs.Prelude.{ℕ, zero, suc, ◌+◌, ◌*◌, ◌<◌, List, ◌≡◌, length, get_or}
use Rattle.model.specs.Lists.{byte}

-- the sum of f i over i from 0 to n - 1
unfoldable pub total : ℕ → (ℕ → ℕ) → ℕ
total zero f = 0
total (suc n) f = total n f + f n

-- each term as often as its number says
abbrev pub by_number : (ℕ → ℕ) → ℕ → ℕ
by_number f i = i * f i

module _ (block : List ℕ) where
  -- of the column in the strip that begins at a byte: the byte of row q
  abbrev pub strip_byte : ℕ → ℕ → ℕ
  strip_byte from q = byte block (8 * q + from)

  abbrev pub strip_sum : ℕ → ℕ
  strip_sum from = total 9 (strip_byte from)

  -- each byte as often as its row's number says
  abbrev pub strip_by_row : ℕ → ℕ
  strip_by_row from = total 9 (by_number (strip_byte from))

  module _ (c : ℕ) where
    -- column c in strip p
    abbrev pub sum_in : ℕ → ℕ
    sum_in p = strip_sum (72 * p + c)

    abbrev pub rows_in : ℕ → ℕ
    rows_in p = strip_by_row (72 * p + c)

    abbrev pub column_sum : ℕ
    column_sum = total 7 sum_in

    abbrev pub column_by_row : ℕ
    column_by_row = total 7 rows_in

    -- each byte as often as its strip's number says
    abbrev pub column_by_strip : ℕ
    column_by_strip = total 7 (by_number sum_in)

-- each byte of all columns as often as its place says, counted from 1: of the columns' sums
abbrev pub of_columns : (ℕ → ℕ) → (ℕ → ℕ) → (ℕ → ℕ) → ℕ
of_columns sums byRow byStrip = total 8 (by_number sums) + total 8 sums + 8 * total 8 byRow + 72 * total 8 byStrip

-- 8 numbers, the first n of them those of f
pub record Filled (f : ℕ → ℕ) (n : ℕ) (l : List ℕ) : Type 0 where
  pub size : length l ≡ 8
  pub filled : (i : ℕ) → i < n → get_or l i 0 ≡ f i
