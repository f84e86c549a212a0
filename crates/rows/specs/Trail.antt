-- A reading as far as a search has come, as the model's reading, and the numbers of its row.
use Rattle.std.specs.Prelude.{ℕ, ◌+◌, ◌-◌, ◌<◌, ◌≤◌, ◌≡◌, List, [], ◌∷◌, ◌++◌, take, get_or, replicate}
use Rattle.model.specs.Lists.{flat_map, number_bytes}
use Rattle.model.specs.Readings.{Reading}
use Rattle.model.specs.Rows.{row_numbers}
use Rattle.rows.specs.declared.Trail.{Trail}

abbrev pub reading_of : Trail → Reading
reading_of t = record { path = take t.entries t.path; pairing = take t.pairs t.pairing }

-- a reading with one entry or one pair more
abbrev pub with_entry : Reading → ℕ → Reading
with_entry r e = record { path = r.path ++ (e ∷ []); pairing = r.pairing }

abbrev pub with_pair : Reading → ℕ → Reading
with_pair r p = record { path = r.path; pairing = r.pairing ++ (p ∷ []) }

-- a trail's entries and pairs are within their arrays
pub record Short (t : Trail) : Type 0 where
  pub entries_most : t.entries ≤ 16
  pub pairs_most : t.pairs ≤ 40

-- a trail for this reading, which has so many entries and pairs
pub record Holds (t : Trail) (r : Reading) (entries pairs : ℕ) : Type 0 where
  pub reading : reading_of t ≡ r
  pub entries_are : t.entries ≡ entries
  pub pairs_are : t.pairs ≡ pairs
  pub short : Short t

-- the number at place k of a row
abbrev pub row_number : Reading → ℕ → ℕ
row_number r k = get_or (row_numbers r) k 0

-- a row whose first k numbers are written, and whose other places are unused
unfoldable pub row_up_to : Reading → ℕ → List ℕ
row_up_to r k = flat_map number_bytes (take k (row_numbers r) ++ replicate (58 - k) 65535)

-- n numbers of this reading's row, which follow their count at place k: a call gives number i, and before the count the row is written
pub record ListOf (Gives : ℕ → ℕ → Type 0) (r : Reading) (row : List ℕ) (k n : ℕ) : Type 0 where
  pub before : row ≡ row_up_to r k
  pub count : n ≡ row_number r k
  pub numbers : (i m : ℕ) → i < n → Gives i m → m ≡ row_number r (k + 1 + i)
