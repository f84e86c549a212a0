-- Document 01, "Analysis, then generation": rows, the lent buffer, and replies.
use Rattle.std.specs.Prelude.{ℕ, ◌+◌, ◌*◌, ◌/◌, Bool, cond, List, [], ◌∷◌, ◌++◌, length, take, drop, replicate, leb}
use Rattle.model.specs.Lists.{part, flat_map, number_bytes}
use Rattle.model.specs.Readings.{Reading}

-- "A row is 58 two-byte numbers: path length, 16 entries, pairing length, 40 pairs, unused places 65535"
abbrev pub padded : ℕ → List ℕ → List ℕ
padded n xs = take n (xs ++ replicate n 65535)

unfoldable pub row_numbers : Reading → List ℕ
row_numbers r = length r.path ∷ (padded 16 r.path ++ (length r.pairing ∷ padded 40 r.pairing))

unfoldable pub row_bytes : Reading → List ℕ
row_bytes r = flat_map number_bytes (row_numbers r)

-- "a lent byte buffer of floor(length / 116) rows"
abbrev pub row_count : List ℕ → ℕ
row_count buffer = length buffer / 116

-- "row k occupies bytes 116k to 116k+115"
unfoldable pub row_at : List ℕ → ℕ → List ℕ
row_at buffer k = part 116 buffer k

-- the buffer with these rows from row 0 on: "Bytes past row n keep their values."
unfoldable pub filled : List ℕ → List Reading → List ℕ
filled buffer rows = flat_map row_bytes rows ++ drop (116 * length rows) buffer

-- "Replies: all n (n at least 1), more n, none, refused k."
pub data Reply : Type 0 where
  all more : ℕ → Reply
  none : Reply
  refused : ℕ → Reply

-- the reply where all readings are l and the buffer has this many rows: "With no row to write in, a word with readings gets more 0."
unfoldable pub reply_to : ℕ → List Reading → Reply
reply_to rows [] = none
reply_to rows (r ∷ l) = let n = length (r ∷ l) in cond (leb n rows) (all n) (more rows)

-- "for it a listing's reply is one unsigned 64-bit number, 4 times n or k, plus 0 none (n is 0), 1 all, 2 more, 3 refused"
unfoldable pub reply_number : Reply → ℕ
reply_number none = 0
reply_number (all n) = 4 * n + 1
reply_number (more n) = 4 * n + 2
reply_number (refused k) = 4 * k + 3
