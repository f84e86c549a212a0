-- Document 01, and the entries of document 02, (e), without what (c) adds: a header of five counts, no block of sets, and column sides that are letters or any. All else is read
-- from records, which stand where they stood (`plain_record_lem`); an image with sets gets no further than 3 (`sets_were_3`).
use Rattle.std.specs.Prelude.{ℕ, ◌+◌, ◌*◌, ◌-◌, ◌/◌, ◌%◌, min, Bool, ◌&&◌, ◌||◌, not, List, [], ◌∷◌, map, get_or, take, drop, leb, ltb, eqb}
use Rattle.model.specs.Lists.{below, every, any, count, first, sum, within, is_zero}
use Rattle.model.specs.Blocks.{Header, Kind, header, block, block_count, block_kind, record_count, row, filled, entry_width, fitting, row_of, blocks_before, kind_from}
use Rattle.model.specs.RuleTables.{Pair, Sides, boundary_pair, pairs, pairs_and_boundary, table, column, column_count, state_count, marks_at, rows_at, table_end, next_state, is_final}
use Rattle.model.specs.Lexicon.{in_lexicon, entry, form_of, may_stop, goes_to}
use Rattle.model.specs.Grammar.{Grammar}
use Rattle.model.specs.Refusals.{Verdict, first_failing, right_length, right_checks, right_letters, right_pairs, right_entries, right_forms}

module _ (h : Header) where
  -- "form (1), L, P, R, X, E, two bytes each", and so on through the table of kinds
  abbrev pub plain_kinds : List Kind
  plain_kinds =
      row 1 1 12 1
      ∷ row 2 1 2 h.letters
      ∷ row 3 1 2 h.pairs
      ∷ row 4 h.rules 506 h.rules
      ∷ row 5 1 2 h.lexicons
      ∷ filled 6 (entry_width h.form) h.entries
      ∷ []

  abbrev pub plain_width : ℕ → ℕ
  plain_width kind = (row_of kind plain_kinds).width

  abbrev pub plain_kind_at : ℕ → ℕ
  plain_kind_at k = kind_from k 0 plain_kinds

  abbrev pub plain_records_at : ℕ → ℕ
  plain_records_at k =
      let kind = plain_kind_at k in
      min (fitting (plain_width kind)) ((row_of kind plain_kinds).in_all - fitting (plain_width kind) * (k - blocks_before kind 0 plain_kinds))

  abbrev pub plain_start : ℕ → ℕ → ℕ
  plain_start kind i = 512 * (blocks_before kind 0 plain_kinds + i / fitting (plain_width kind)) + (4 + plain_width kind * (i % fitting (plain_width kind)))

  -- "Limits: letters L 2-120, pairs P 1-250, rules R 0-32, lexicons X 1-64, entries E 1-2,800."
  abbrev pub plain_limits : Bool
  plain_limits = within 2 120 h.letters && within 1 250 h.pairs && within 0 32 h.rules && within 1 64 h.lexicons && within 1 2800 h.entries

  abbrev pub plain_laid_out : ℕ → List ℕ → Bool
  plain_laid_out k b =
      eqb (block_kind b) (plain_kind_at k)
      && eqb (record_count b) (plain_records_at k)
      && every is_zero (drop (4 + plain_width (plain_kind_at k) * plain_records_at k) (take 510 b))

-- the bytes of record i of a kind
abbrev pub plain_record : List ℕ → ℕ → ℕ → List ℕ
plain_record image kind i = let h = header image in take (plain_width h kind) (drop (plain_start h kind i) image)

-- "each 0-L, or 255 for any, which matches the null and the boundary too"
abbrev pub is_plain_table : List ℕ → ℕ → Bool
is_plain_table t letters =
    within 1 16 (column_count t)
    && within 1 24 (state_count t)
    && every (λ b. leb b letters || eqb b 255) (take (2 * column_count t) (drop 2 t))
    && every (λ b. leb b 1) (take (state_count t) (drop (marks_at t) t))
    && every (λ b. leb b (state_count t)) (take (column_count t * state_count t) (drop (rows_at t) t))
    && every is_zero (drop (table_end t) t)

abbrev pub plain_side : ℕ → ℕ → Bool
plain_side side letter = eqb side 255 || eqb side letter

abbrev pub plain_matches : Sides → Pair → Bool
plain_matches c p = plain_side c.lexical p.lexical && plain_side c.surface p.surface

module _ (ps : List Pair) (t : List ℕ) where
  abbrev pub plain_takes : Pair → ℕ → Bool
  plain_takes p c =
      plain_matches (column t c) p
      && every (λ d. eqb d c || not (plain_matches (column t d) p) || ltb (count (plain_matches (column t c)) ps) (count (plain_matches (column t d)) ps)) (below (column_count t))

  abbrev pub plain_column_for : Pair → ℕ
  plain_column_for p = first (plain_takes p) (below (column_count t)) (column_count t)

module _ (image : List ℕ) where
  abbrev pub plain_columns : ℕ → List ℕ
  plain_columns r = let ps = pairs_and_boundary image in map (plain_column_for ps (table image r)) ps

  -- 3, 6 and 7; the other tests read records alone
  abbrev pub plain_layout : Bool
  plain_layout =
      let h = header image in
      within 1 2 h.form
      && plain_limits h
      && eqb (block_count image) (sum (map (λ r. r.blocks) (plain_kinds h)))
      && every (λ k. plain_laid_out h k (block image k)) (below (block_count image))

  abbrev pub plain_tables : Bool
  plain_tables = every (λ r. is_plain_table (table image r) (header image).letters) (below (header image).rules)

  abbrev pub plain_columns_right : Bool
  plain_columns_right = every (λ r. every (λ c. ltb c (column_count (table image r))) (plain_columns r)) (below (header image).rules)

  abbrev pub plain_tests : List (ℕ × Bool)
  plain_tests =
      (1, right_length image) ∷ (2, right_checks image) ∷ (3, plain_layout) ∷ (4, right_letters image) ∷ (5, right_pairs image) ∷ (6, plain_tables) ∷ (7, plain_columns_right)
      ∷ (8, right_entries image) ∷ (14, right_forms image) ∷ []

  abbrev pub plain_verdict : Verdict
  plain_verdict = first_failing plain_tests

  abbrev pub plain_grammar : Grammar
  plain_grammar =
      let ps = pairs image in
      let tables = map (table image) (below (header image).rules) in
      let columns = map plain_columns (below (header image).rules) in
      record {
        pairs = (header image).pairs;
        lexical = λ p. (get_or ps p boundary_pair).lexical;
        surface = λ p. (get_or ps p boundary_pair).surface;
        spoken = λ p. (get_or ps p boundary_pair).surface;
        rules = (header image).rules;
        next = λ r s p. next_state (get_or tables r []) s (get_or (get_or columns r []) p 0);
        final = λ r s. is_final (get_or tables r []) s;
        entries = (header image).entries;
        form = λ e. form_of (entry image e);
        begins = in_lexicon image 0;
        follows = λ e f. any (λ x. goes_to (entry image e) (header image).form x && in_lexicon image x f) (below (header image).lexicons);
        ends = λ e. may_stop (entry image e) (header image).form;
      }
