-- Document 01, "Beside the listings", the line program: lines, the words that they hold, and what is printed.
use Rattle.std.specs.Prelude.{ℕ, zero, suc, ◌+◌, ◌*◌, ◌-◌, ◌/◌, ◌%◌, Bool, true, false, ◌&&◌, not, cond, List, [], ◌∷◌, ◌++◌, map, length, leb, ltb, eqb}
use Rattle.model.specs.Lists.{given, every, flat_map, within}
use Rattle.model.specs.Readings.{Reading}
use Rattle.model.specs.Query.{analysis}
use Rattle.model.specs.Tree.{is_nil}
use Rattle.model.specs.Rows.{Reply, all, more, none, refused}
use Rattle.model.specs.Calls.{listing_reply, listing_rows}

-- "a last line may lack its line end, byte 10": the lines of the rest of the input, after the beginning of one
unfoldable pub lines_from : List ℕ → List ℕ → List (List ℕ)
lines_from line [] = given (not (is_nil line)) (line ∷ [])
lines_from line (b ∷ bs) = cond (eqb b 10) (line ∷ lines_from [] bs) (lines_from (line ++ (b ∷ [])) bs)

unfoldable pub lines_of : List ℕ → List (List ℕ)
lines_of input = lines_from [] input

-- "split by single spaces": the fields of the rest of the line, after the beginning of one
unfoldable pub fields_from : List ℕ → List ℕ → List (List ℕ)
fields_from field [] = field ∷ []
fields_from field (b ∷ bs) = cond (eqb b 32) (field ∷ fields_from [] bs) (fields_from (field ++ (b ∷ [])) bs)

unfoldable pub fields_of : List ℕ → List (List ℕ)
fields_of line = fields_from [] line

-- digits after a number's first ones
unfoldable pub value_from : ℕ → List ℕ → ℕ
value_from n [] = n
value_from n (d ∷ ds) = value_from (10 * n + (d - 48)) ds

abbrev pub value_of : List ℕ → ℕ
value_of field = value_from 0 field

-- "numbers 0-255", "one to three digits each"
unfoldable pub is_number : List ℕ → Bool
is_number field = within 1 3 (length field) && every (within 48 57) field && leb (value_of field) 255

pub data Line : Type 0 where
  letters : List ℕ → Line
  unread : Line

-- "An empty line is an empty word; a line over 255 bytes, or with anything but numbers 0-255, prints "unread"."
unfoldable pub line_of : List ℕ → Line
line_of [] = letters []
line_of (b ∷ bs) = let line = b ∷ bs in cond (leb (length line) 255 && every is_number (fields_of line)) (letters (map value_of (fields_of line))) unread

-- a number in base ten; n steps are more than enough
unfoldable pub digits : ℕ → ℕ → List ℕ
digits zero n = (48 + n) ∷ []
digits (suc k) n = cond (ltb n 10) ((48 + n) ∷ []) (digits k (n / 10) ++ ((48 + n % 10) ∷ []))

abbrev pub decimal : ℕ → List ℕ
decimal n = digits n n

-- numbers split by single spaces
unfoldable pub spaced : List ℕ → List ℕ
spaced [] = []
spaced (n ∷ []) = decimal n
spaced (n ∷ m ∷ ns) = decimal n ++ (32 ∷ spaced (m ∷ ns))

-- "It prints the reply and number": all, more, none, refused
unfoldable pub printed_reply : Reply → List ℕ
printed_reply (all n) = 97 ∷ 108 ∷ 108 ∷ 32 ∷ (decimal n ++ (10 ∷ []))
printed_reply (more n) = 109 ∷ 111 ∷ 114 ∷ 101 ∷ 32 ∷ (decimal n ++ (10 ∷ []))
printed_reply none = 110 ∷ 111 ∷ 110 ∷ 101 ∷ 32 ∷ 48 ∷ 10 ∷ []
printed_reply (refused k) = 114 ∷ 101 ∷ 102 ∷ 117 ∷ 115 ∷ 101 ∷ 100 ∷ 32 ∷ (decimal k ++ (10 ∷ []))

-- "then a line a row: entries, " | ", pairs"
unfoldable pub printed_row : Reading → List ℕ
printed_row r = spaced r.path ++ (32 ∷ 124 ∷ 32 ∷ spaced r.pairing) ++ (10 ∷ [])

-- "It lends 64 rows."
unfoldable pub printed_line : List ℕ → Line → List ℕ
printed_line image unread = 117 ∷ 110 ∷ 114 ∷ 101 ∷ 97 ∷ 100 ∷ 10 ∷ []
printed_line image (letters w) = printed_reply (listing_reply image (analysis w) 64) ++ flat_map printed_row (listing_rows image (analysis w) 64)

-- what the program prints for a whole input
unfoldable pub printed : List ℕ → List ℕ → List ℕ
printed image input = flat_map (λ line. printed_line image (line_of line)) (lines_of input)
