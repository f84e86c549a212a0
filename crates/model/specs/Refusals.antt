-- Document 01, "When a call is turned down", with what document 02, (c), adds to 3 and 6, and the answers that (b) and (m) add: the tests 1 to 14, 23 and 24,
-- and the first that fails, in the order in which they are made.
use Rattle.std.specs.Prelude.{ℕ, ◌%◌, Bool, true, false, ◌&&◌, List, [], ◌∷◌, ◌++◌, map, length, leb, ltb, eqb}
use Rattle.model.specs.Lists.{below, every, any, distinct, sum, within, numbers}
use Rattle.model.specs.Blocks.{block, block_count, block_number, block_check, check_of, header, within_limits, block_total, laid_out}
use Rattle.model.specs.RuleTables.{code_points, is_code_point, pairs, is_pair, same_pair, letter_sets, is_set, table, is_table, column_count, columns_of}
use Rattle.model.specs.Lexicon.{entry_count, entry, form_of, is_entry, path_length}
use Rattle.model.specs.GrammarOf.{grammar_of}
use Rattle.model.specs.Readings.{is_linked, word_length, pairing_length}
use Rattle.model.specs.Query.{Request, analysis, generation, entry_numbers}
use Rattle.model.specs.Spelling.{word_spelled}

pub data Verdict : Type 0 where
  accepted : Verdict
  refused : ℕ → Verdict

abbrev pub unless : Bool → ℕ → Verdict → Verdict
unless true k v = v
unless false k v = refused k

-- "Tested by number", but for 14, "tested after 8 and before 9": the first that fails, in the order of the list
abbrev pub first_failing : List (ℕ × Bool) → Verdict
first_failing [] = accepted
first_failing (t ∷ ts) = unless t.1 t.0 (first_failing ts)

module _ (image : List ℕ) where
  -- 1, "length 0, over 65,536, or no multiple of 512"
  unfoldable pub right_length : Bool
  right_length = within 1 65536 (length image) && eqb (length image % 512) 0

  -- 2, "a check or block number is wrong"
  unfoldable pub right_checks : Bool
  right_checks = every (λ k. let b = block image k in eqb (block_number b) k && eqb (block_check b) (check_of b)) (below (block_count image))

  -- 3, "form, counts, block total, kinds, record counts or unused block bytes differ from the above"
  unfoldable pub right_layout : Bool
  right_layout =
      let h = header image in
      within 1 2 h.form
      && within_limits h
      && eqb (block_count image) (block_total h)
      && every (λ k. laid_out h k (block image k)) (below (block_count image))

  -- 4, "a code point is 0, 55296-57343, or repeated"
  unfoldable pub right_letters : Bool
  right_letters = every is_code_point (code_points image) && distinct eqb (code_points image)

  -- 5, "a pair breaks its rule or is repeated"
  unfoldable pub right_pairs : Bool
  right_pairs = every (is_pair (header image).letters) (pairs image) && distinct same_pair (pairs image)

  -- 6, "C, S, a column side, mark or next state out of range, or a byte after a table's last row not 0", and a set with a bit above L
  unfoldable pub right_tables : Bool
  right_tables =
      let h = header image in
      every (is_set h.letters) (letter_sets image) && every (λ r. is_table (table image r) h.letters h.sets) (below h.rules)

  -- 7, "for a listed or the boundary pair a rule has no matching column, or two narrowest"
  unfoldable pub right_columns : Bool
  right_columns = every (λ r. every (λ c. ltb c (column_count (table image r))) (columns_of image r)) (below (header image).rules)

  -- 8, "lexicon counts don't add to E, or an entry breaks its layout"
  unfoldable pub right_entries : Bool
  right_entries =
      let h = header image in
      eqb (sum (map (entry_count image) (below h.lexicons))) h.entries
      && every (λ e. is_entry (entry image e) h.form h.letters h.lexicons) (below h.entries)

  -- a letter that some pair has on its lexical side
  unfoldable pub is_lexical : ℕ → Bool
  is_lexical a = any (λ p. eqb p.lexical a) (pairs image)

  -- 14, "a form letter that is the lexical side of no pair"
  unfoldable pub right_forms : Bool
  right_forms = every (λ e. every is_lexical (form_of (entry image e))) (below (header image).entries)

  -- document 01's own tests of an image, "1-8"
  unfoldable pub format_tests : List (ℕ × Bool)
  format_tests = (1, right_length) ∷ (2, right_checks) ∷ (3, right_layout) ∷ (4, right_letters) ∷ (5, right_pairs) ∷ (6, right_tables) ∷ (7, right_columns) ∷ (8, right_entries) ∷ []

  -- "Such an image is to be refused by every call but sealing .. tested after 8 and before 9": each of those calls begins with these
  unfoldable pub image_tests : List (ℕ × Bool)
  image_tests = format_tests ++ ((14, right_forms) ∷ [])

  -- "the image check, which replies accepted otherwise, 1-8", and 14
  unfoldable pub image_verdict : Verdict
  image_verdict = first_failing image_tests

  -- 9, "word length 0 or over 32"; 10, "word letter outside 2-L"
  unfoldable pub word_tests : List ℕ → List (ℕ × Bool)
  word_tests word = (9, word_length word) ∷ (10, every (within 2 (header image).letters) word) ∷ []

  -- 11, "path of 0 or over 16 entries, or an odd count of bytes"; 12, "no such entry, or the path isn't linked as above"
  unfoldable pub path_tests : List ℕ → List (ℕ × Bool)
  path_tests path =
      let es = entry_numbers path in
      (11, eqb (length path % 2) 0 && path_length es) ∷ (12, is_linked (grammar_of image) es) ∷ []

  -- 13, "pairing length 0 or over 40, or no such pair"
  unfoldable pub pairing_tests : List ℕ → List (ℕ × Bool)
  pairing_tests pairing = (13, pairing_length pairing && every (λ p. ltb p (header image).pairs) pairing) ∷ []

  -- "every other call 1-8", and 14, "and then its own"
  unfoldable pub own_tests : Request → List (ℕ × Bool)
  own_tests (analysis word) = word_tests word
  own_tests (generation path) = path_tests path

  unfoldable pub request_tests : Request → List (ℕ × Bool)
  request_tests request = image_tests ++ own_tests request

  -- "the judge 11, 12, 13"
  unfoldable pub judge_tests : List ℕ → List ℕ → List (ℕ × Bool)
  judge_tests path pairing = image_tests ++ (path_tests path ++ pairing_tests pairing)

  -- "The view uses 12 for a missing entry only"
  unfoldable pub view_tests : ℕ → List (ℕ × Bool)
  view_tests e = image_tests ++ ((12, ltb e (header image).entries) ∷ [])

  -- document 02, (m): "an odd byte of input is refused with 9, as are no code points or over 32"; 23, "a code point with no letter, or with letter 1"; 24, "an
  -- output shorter than the word", room being the output's length
  unfoldable pub point_tests : List ℕ → ℕ → List (ℕ × Bool)
  point_tests points room =
      (9, eqb (length points % 2) 0 && word_length (numbers points))
      ∷ (23, every (leb 2) (word_spelled image points))
      ∷ (24, leb (length (numbers points)) room)
      ∷ []

  -- "tested in that order after 9"
  unfoldable pub spelling_tests : List ℕ → ℕ → List (ℕ × Bool)
  spelling_tests points room = image_tests ++ point_tests points room
