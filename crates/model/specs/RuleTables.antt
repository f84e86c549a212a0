-- Document 01, "Letters, pairs, rule tables", with the sets of document 02, (c): letters, pairs and sets of an image, the column that a pair takes, states, and
-- when a rule accepts.
use Rattle.std.specs.Prelude.{ℕ, zero, suc, ◌+◌, ◌*◌, ◌-◌, ◌/◌, ◌%◌, Bool, false, ◌&&◌, ◌||◌, not, cond, List, [], ◌∷◌, ◌++◌, map, get_or, take, drop, leb, ltb, eqb}
use Rattle.model.specs.Lists.{below, every, count, first, within, is_zero, byte, bit, number}
use Rattle.model.specs.Blocks.{header, record_at}

-- a pair: "The two levels have their own letters"
pub record Pair : Type 0 where
  pub lexical : ℕ
  pub surface : ℕ

abbrev pub same_pair : Pair → Pair → Bool
same_pair p q = eqb p.lexical q.lexical && eqb p.surface q.surface

-- what a column says of a pair, side by side
pub record Sides : Type 0 where
  pub lexical : ℕ
  pub surface : ℕ

module _ (image : List ℕ) where
  -- "code point of letter 1, 2, .. L"
  unfoldable pub code_points : List ℕ
  code_points = map (λ i. number (record_at image 2 i) 0) (below (header image).letters)

  -- "lexical, surface: pair 0, 1, .. P-1"
  abbrev pub pair : ℕ → Pair
  pair p = let r = record_at image 3 p in record { lexical = byte r 0; surface = byte r 1 }

  unfoldable pub pairs : List Pair
  pairs = map pair (below (header image).pairs)

  -- "The sets stand in one block of kind 7": set 0, 1, .. as records
  unfoldable pub letter_sets : List (List ℕ)
  letter_sets = map (record_at image 7) (below (header image).sets)

-- "Letter 0 is the null, letter 1 the word boundary, which only pairs with itself and isn't listed."
abbrev pub boundary_pair : Pair
boundary_pair = record { lexical = 1; surface = 1 }

-- "the P pairs and the boundary pair together": the boundary pair has number P
unfoldable pub pairs_and_boundary : List ℕ → List Pair
pairs_and_boundary image = pairs image ++ (boundary_pair ∷ [])

-- a code point that 4 lets pass: not 0, and not "55296-57343"
unfoldable pub is_code_point : ℕ → Bool
is_code_point n = not (is_zero n) && not (within 55296 57343 n)

-- "A pair has sides 0 or 2-L, not both 0."
unfoldable pub is_pair : ℕ → Pair → Bool
is_pair letters p =
    (is_zero p.lexical || within 2 letters p.lexical)
    && (is_zero p.surface || within 2 letters p.surface)
    && not (is_zero p.lexical && is_zero p.surface)

-- "Each record is 16 bytes, bit b of byte j for letter 8j + b."
unfoldable pub in_set : List ℕ → ℕ → Bool
in_set set letter = bit (byte set (letter / 8)) (letter % 8)

-- a set that 6 lets pass: "A bit above L is refused with 6"; the highest bit is letter 127's
unfoldable pub is_set : ℕ → List ℕ → Bool
is_set letters set = every (λ a. leb a letters || not (in_set set a)) (below 128)

-- "A column side may be 128 to 158, naming set 0 to 30."
abbrev pub names_set : ℕ → Bool
names_set side = within 128 158 side

-- a column side that 6 lets pass: "each 0-L, or 255 for any", or one that names a set; "a side that names a missing set" is refused
unfoldable pub is_side : ℕ → ℕ → ℕ → Bool
is_side letters sets side = leb side letters || eqb side 255 || (leb 128 side && ltb side (128 + sets))

-- "A table: column count C (1-16), state count S (1-24), C columns .., S final marks .., then S rows of C next states"
abbrev pub table : List ℕ → ℕ → List ℕ
table image r = record_at image 4 r

module _ (t : List ℕ) where
  abbrev pub column_count : ℕ
  column_count = byte t 0

  abbrev pub state_count : ℕ
  state_count = byte t 1

  unfoldable pub column : ℕ → Sides
  column c = record { lexical = byte t (2 + 2 * c); surface = byte t (3 + 2 * c) }

  -- where the marks, the rows and the unused bytes begin
  abbrev pub marks_at : ℕ
  marks_at = 2 + 2 * column_count

  abbrev pub rows_at : ℕ
  rows_at = marks_at + state_count

  abbrev pub table_end : ℕ
  table_end = rows_at + column_count * state_count

  -- "The start is state 1; state 0 is failure."
  unfoldable pub is_final : ℕ → Bool
  is_final zero = false
  is_final (suc s) = eqb (byte t (marks_at + s)) 1

  unfoldable pub next_state : ℕ → ℕ → ℕ
  next_state zero c = 0
  next_state (suc s) c = byte t (rows_at + column_count * s + c)

  -- what 6 asks of a table, by the counts of letters and of sets: the column sides, "(0 or 1)", "(0-S)", nothing after the last row
  unfoldable pub is_table : ℕ → ℕ → Bool
  is_table letters sets =
      within 1 16 column_count
      && within 1 24 state_count
      && every (is_side letters sets) (take (2 * column_count) (drop 2 t))
      && every (λ b. leb b 1) (take state_count (drop marks_at t))
      && every (λ b. leb b state_count) (take (column_count * state_count) (drop rows_at t))
      && every is_zero (drop table_end t)

-- the letters that a side matches, by the sets of the image
module _ (sets : List (List ℕ)) where
  -- "255 for any, which matches the null and the boundary too"; and a set the letters that it has, which "may hold the null (bit 0) and the boundary (bit 1)"
  unfoldable pub matches_side : ℕ → ℕ → Bool
  matches_side side letter = cond (names_set side) (in_set (get_or sets (side - 128) []) letter) (eqb side 255 || eqb side letter)

  unfoldable pub matches : Sides → Pair → Bool
  matches c p = matches_side c.lexical p.lexical && matches_side c.surface p.surface

  -- how many of the pairs a column matches: "narrowness still counts pairs"
  abbrev pub breadth : List Pair → Sides → ℕ
  breadth ps c = count (matches c) ps

  module _ (ps : List Pair) (t : List ℕ) where
    -- "Of the matching columns a pair takes the one that matches fewest of the P pairs and the boundary pair together."
    unfoldable pub takes_column : Pair → ℕ → Bool
    takes_column p c =
        matches (column t c) p
        && every (λ d. eqb d c || not (matches (column t d) p) || ltb (breadth ps (column t c)) (breadth ps (column t d))) (below (column_count t))

    -- the column that a pair takes; C where it takes none
    unfoldable pub column_for : Pair → ℕ
    column_for p = first (takes_column p) (below (column_count t)) (column_count t)

-- the columns that rule r takes for pair 0, 1, .. P-1 and the boundary pair
unfoldable pub columns_of : List ℕ → ℕ → List ℕ
columns_of image r = let ps = pairs_and_boundary image in map (column_for (letter_sets image) ps (table image r)) ps

-- "A pairing passes when every rule, fed its pairs and then the boundary pair, never reaches 0 and ends in a final state." And document 02, (a): "The
-- boundary pair is now fed to every rule before the first pair too."
unfoldable pub fed : ℕ → List ℕ → List ℕ
fed boundary ps = boundary ∷ (ps ++ (boundary ∷ []))

-- a rule in state s, by its next states and its final states
module _ (next : ℕ → ℕ → ℕ) (final : ℕ → Bool) where
  unfoldable pub accepts : ℕ → List ℕ → Bool
  accepts s [] = not (is_zero s) && final s
  accepts s (p ∷ ps) = not (is_zero s) && accepts (next s p) ps
