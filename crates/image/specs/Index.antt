-- The index of an accepted image, 39,424 bytes in rows of 256: for each rule the column that it takes for each pair and the boundary,
-- for each lexical letter the pairs that may pair it or stand before it, and where each lexicon begins. Bytes of a row that nothing fills are 0: room for more.
use Rattle.std.specs.Prelude.{ℕ, ◌+◌, Bool, ◌||◌, List, [], ◌∷◌, ◌++◌, length, get_or, take, replicate, leb, ltb, eqb}
use Rattle.model.specs.Lists.{below, given, flat_map, is_zero, number_bytes}
use Rattle.model.specs.Blocks.{header}
use Rattle.model.specs.RuleTables.{pairs, boundary_pair, columns_of}
use Rattle.model.specs.Lexicon.{first_entry}

-- those that pass
abbrev pub only : {A : Type 0} → (A → Bool) → List A → List A
only f [] = []
only f (x ∷ xs) = given (f x) (x ∷ []) ++ only f xs

unfoldable pub index_row : List ℕ → List ℕ
index_row xs = take 256 (xs ++ replicate 256 0)

-- row r, of rule r: its column for pair 0, 1, .. P-1 and the boundary pair
unfoldable pub column_row : List ℕ → ℕ → List ℕ
column_row image r = index_row (given (ltb r (header image).rules) (columns_of image r))

-- the pairs whose lexical side is this letter or the null, in ascending order; of letter 0 those with the null alone
unfoldable pub candidates : List ℕ → ℕ → List ℕ
candidates image a = only (λ p. let x = (get_or (pairs image) p boundary_pair).lexical in is_zero x || eqb x a) (below (header image).pairs)

-- row 32 + a, of lexical letter a: how many pairs, and which
unfoldable pub candidate_row : List ℕ → ℕ → List ℕ
candidate_row image a = let ps = candidates image a in index_row (given (leb a (header image).letters) (length ps ∷ ps))

-- rows 0 to 152: what the rules and the pairs give
unfoldable pub rule_rows : List ℕ → List ℕ
rule_rows image = flat_map (column_row image) (below 32) ++ flat_map (candidate_row image) (below 121)

-- row 153: the first entry of lexicon 0, 1, .. X-1, and E
unfoldable pub lexicon_row : List ℕ → List ℕ
lexicon_row image = index_row (flat_map (λ x. number_bytes (first_entry image x)) (below ((header image).lexicons + 1)))

unfoldable pub index_of : List ℕ → List ℕ
index_of image = rule_rows image ++ lexicon_row image
