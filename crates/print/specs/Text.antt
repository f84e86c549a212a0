-- Text that is put into a lent buffer, and the reading that a row of bytes holds.
use Rattle.std.specs.Prelude.{ℕ, zero, suc, ◌+◌, ◌*◌, ◌<◌, ◌≤◌, ◌≡◌, List, ◌∷◌, ◌++◌, map, length, take, drop}
use Rattle.model.specs.Lists.{below, flat_map, number}
use Rattle.model.specs.Readings.{Reading}
use Rattle.model.specs.Rows.{row_at}
use Rattle.model.specs.Lines.{decimal, printed_row}

-- text that begins at one place of a buffer and ends at another; what stands before it and after it is kept
pub record Put (before after : List ℕ) (at end : ℕ) (text : List ℕ) : Type 0 where
  pub same_length : length after ≡ length before
  pub written : take end after ≡ take at before ++ text
  pub ends : end ≡ at + length text
  pub kept : drop end after ≡ drop end before

-- n two-byte numbers, the first at this byte
abbrev pub numbers_from : List ℕ → ℕ → ℕ → List ℕ
numbers_from bytes from n = map (λ i. number bytes (from + 2 * i)) (below n)

-- "path length, 16 entries, pairing length, 40 pairs"
unfoldable pub row_reading : List ℕ → Reading
row_reading row = record { path = numbers_from row 2 (number row 0); pairing = numbers_from row 36 (number row 34) }

-- a row's bytes, with no more entries and pairs than it has places
pub record Row (row : List ℕ) : Type 0 where
  pub whole : length row ≡ 116
  pub entries_most : number row 0 ≤ 16
  pub pairs_most : number row 34 ≤ 40

-- a buffer whose rows 0 to n - 1 are such rows
pub record Rows (rows : List ℕ) (n : ℕ) : Type 0 where
  pub inside : 116 * n ≤ length rows
  pub each : (j : ℕ) → j < n → Row (row_at rows j)

-- their lines
abbrev pub printed_rows : List ℕ → ℕ → List ℕ
printed_rows rows n = flat_map (λ j. printed_row (row_reading (row_at rows j))) (below n)

-- number i of those that are split by single spaces, with the space before it
abbrev pub spaced_at : ℕ → ℕ → List ℕ
spaced_at zero n = decimal n
spaced_at (suc i) n = 32 ∷ decimal n
