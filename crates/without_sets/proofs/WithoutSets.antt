-- Images without sets have the verdict and the grammar of a layout that knows no sets, in either form: what that accepts has none and stands for the same
-- grammar, and an image that has some is refused by it, with 3 where 1 and 2 let it pass.
use Prim.Native.Nat.{ℕ, zero, suc, ◌+◌, ◌*◌, ◌/◌, ◌%◌, ◌<◌, ◌≤◌}
use native.Mathlib.Omega.{arith}
use mathlib.Core.Bool.{Bool, true, false, ◌&&◌}
use mathlib.Core.Path.{◌≡◌, refl, sym, ap, ap₂, ◌∙◌, subst}
use mathlib.Core.List.{List, [], ◌∷◌, map}
use lib.ListN.{get_or, take, drop}
use lib.Dec.{T, ltb, eqb, eqb→eq}
use borrow.Author.Tests.{ne_eqb}
use Rattle.model.specs.Lists.{below, every, any, sum, within}
use Rattle.model.specs.Blocks.{Kind, header, block, block_count, fitting, block_total, within_limits, laid_out, record_start, record_at}
use Rattle.model.specs.RuleTables.{boundary_pair, pairs, pairs_and_boundary, letter_sets, table, column_count, is_set, is_table, columns_of, next_state, is_final}
use Rattle.model.specs.Lexicon.{in_lexicon, entry, form_of, may_stop, goes_to}
use Rattle.model.specs.Grammar.{Grammar}
use Rattle.model.specs.GrammarOf.{grammar_of}
use Rattle.model.specs.Refusals.{Verdict, accepted, refused, unless, first_failing, right_length, right_checks, right_layout, right_letters, right_pairs, right_tables, right_columns, right_entries, right_forms, format_tests, image_tests, image_verdict}
use Rattle.model.proofs.Booleans.{and_out, out4, out5, true_of, of_true, false_of, within_out}
use Rattle.model.proofs.Lists.{below_has, below_from, every_same, every_at, map_same}
use Rattle.model.proofs.Tests.{clash}
use Rattle.without_sets.specs.Plain.{plain_kinds, plain_limits, plain_laid_out, plain_record, is_plain_table, plain_columns, plain_layout, plain_tables, plain_columns_right, plain_tests, plain_verdict, plain_grammar}
use Rattle.without_sets.proofs.Laid.{is_other, other_row, other_first, first_none, same_total, same_limits, same_laid}
use Rattle.without_sets.proofs.Sides.{plain_is_table, columns_plain}

-- where tests are all passed, each is: that at place i
passed : (ts : List (ℕ × Bool)) (i : ℕ) → first_failing ts ≡ accepted → T (get_or ts i (0, true)).1
passed [] i e = tt
passed (t ∷ ts) i e = let u = head t.1 e in go i u.0 (λ j. passed ts j u.1)
  where
    head : (b : Bool) → unless b t.0 (first_failing ts) ≡ accepted → T b × (first_failing ts ≡ accepted)
    head true e = (tt, e)
    head false e = clash (cc)

    go : (i : ℕ) → T t.1 → ((j : ℕ) → T (get_or ts j (0, true)).1) → T (get_or (t ∷ ts) i (0, true)).1
    go zero u r = u
    go (suc i) u r = r i

module _ (image : List ℕ) where
  -- what was accepted has no sets: the sixth count stands where unused bytes had to be 0
  pub plain_layout_none : plain_layout image ≡ true → (header image).sets ≡ 0
  unfolding header
  plain_layout_none e =
      let h = header image in
      let u = out4 (within 1 2 h.form) (plain_limits h) (eqb (block_count image) (sum (map (λ r. r.blocks) (plain_kinds h))))
      (every (λ k. plain_laid_out h k (block image k)) (below (block_count image))) (of_true (plain_layout image) e) in
      let n = eqb→eq (block_count image) (sum (map (λ r. r.blocks) (plain_kinds h))) u.2 in
      first_none h (block image 0) (every_at (λ k. plain_laid_out h k (block image k)) (below (block_count image)) (below_has (block_count image) 0 (omega arith)) u.3)

  layout_limits : T (right_layout image) → T (within_limits (header image))
  unfolding right_layout
  layout_limits t =
      let h = header image in
      (out4 (within 1 2 h.form) (within_limits h) (eqb (block_count image) (block_total h)) (every (λ k. laid_out h k (block image k)) (below (block_count image))) t).1

  -- the verdict by the answers of 3, 6 and 7
  abbrev verdict_by : Bool → Bool → Bool → Verdict
  verdict_by layout tables columns =
      first_failing
      ((1, right_length image) ∷ (2, right_checks image) ∷ (3, layout) ∷ (4, right_letters image) ∷ (5, right_pairs image) ∷ (6, tables) ∷ (7, columns)
      ∷ (8, right_entries image) ∷ (14, right_forms image) ∷ [])

  -- that of 7 counts only where 3 and 6 pass
  columns_after : (layout tables c d : Bool) → (T layout → T tables → c ≡ d) → verdict_by layout tables c ≡ verdict_by layout tables d
  columns_after true true c d e = ap (verdict_by true true) (e tt tt)
  columns_after true false c d e = refl
  columns_after false tables c d e = refl

  module _ (none : (header image).sets ≡ 0) where
    -- records of the other kinds stand where they stood
    pub plain_record_lem : (kind i : ℕ) → T (within 2 6 kind) → record_at image kind i ≡ plain_record image kind i
    unfolding record_at record_start
    plain_record_lem kind i t =
        let w = within_out 2 6 kind t in
        let o : T (is_other kind) = rw (ne_eqb 1 kind (λ e. omega arith), ne_eqb 7 kind (λ e. omega arith)) tt in
        ap₂ (λ (r : Kind) (n : ℕ). take r.width (drop (512 * (n + i / fitting r.width) + (4 + r.width * (i % fitting r.width))) image))
        (other_row (header image) kind o) (other_first (header image) none kind o)

    -- 3 and 6 answer as they did
    pub plain_layout_lem : plain_layout image ≡ right_layout image
    unfolding right_layout header
    plain_layout_lem =
        let h = header image in
        ap₂ (λ (a b : Bool). a && b)
        (ap₂ (λ (a : Bool) (n : ℕ). within 1 2 h.form && a && eqb (block_count image) n) (sym (same_limits h none)) (sym (same_total h none)))
        (every_same (λ k. plain_laid_out h k (block image k)) (λ k. laid_out h k (block image k)) (below (block_count image))
        (λ k m. sym (same_laid h none k (block image k) (λ e. rw e none))))

    pub plain_tables_lem : plain_tables image ≡ right_tables image
    unfolding right_tables letter_sets
    plain_tables_lem =
        let h = header image in
        rw none
        (every_same (λ r. is_plain_table (table image r) h.letters) (λ r. is_table (table image r) h.letters 0) (below h.rules) (λ r m. sym (plain_is_table (table image r) h.letters)))

    -- of what 6 lets pass, where the counts are within the limits: without them a letter's number could name a set
    module _ (limits : T (within_limits (header image))) (tables : T (right_tables image)) where
      few_letters : (header image).letters ≤ 120
      unfolding within_limits
      few_letters =
          let h = header image in
          let u = and_out (plain_limits h) (within 0 31 h.sets) limits in
          let v = out5 (within 2 120 h.letters) (within 1 250 h.pairs) (within 0 32 h.rules) (within 1 64 h.lexicons) (within 1 2800 h.entries) u.0 in
          (within_out 2 120 h.letters v.0).1

      right_table : (r : ℕ) → r < (header image).rules → T (is_table (table image r) (header image).letters 0)
      unfolding right_tables
      right_table r l =
          let h = header image in
          let u = and_out (every (is_set h.letters) (letter_sets image)) (every (λ r. is_table (table image r) h.letters h.sets) (below h.rules)) tables in
          rw none at (every_at (λ r. is_table (table image r) h.letters h.sets) (below h.rules) (below_has h.rules r l) u.1)

      -- each pair takes the column that it took
      pub plain_columns_lem : (r : ℕ) → r < (header image).rules → plain_columns image r ≡ columns_of image r
      unfolding columns_of
      plain_columns_lem r l = sym (columns_plain (table image r) (header image).letters few_letters (right_table r l) (letter_sets image) (pairs_and_boundary image))

      plain_columns_right_lem : plain_columns_right image ≡ right_columns image
      unfolding right_columns
      plain_columns_right_lem =
          every_same (λ r. every (λ c. ltb c (column_count (table image r))) (plain_columns image r)) (λ r. every (λ c. ltb c (column_count (table image r))) (columns_of image r)) (below (header image).rules)
          (λ r m. ap (every (λ c. ltb c (column_count (table image r)))) (plain_columns_lem r (below_from (header image).rules r m)))

      -- and so it stands for the grammar that it stood for
      pub plain_grammar_lem : grammar_of image ≡ plain_grammar image
      unfolding grammar_of
      plain_grammar_lem =
          let ps = pairs image in
          let ts = map (table image) (below (header image).rules) in
          ap
          (λ (columns : List (List ℕ)).
          let g : Grammar = record {
            pairs = (header image).pairs;
            lexical = λ p. (get_or ps p boundary_pair).lexical;
            surface = λ p. (get_or ps p boundary_pair).surface;
            spoken = λ p. (get_or ps p boundary_pair).surface;
            rules = (header image).rules;
            next = λ r s p. next_state (get_or ts r []) s (get_or (get_or columns r []) p 0);
            final = λ r s. is_final (get_or ts r []) s;
            entries = (header image).entries;
            form = λ e. form_of (entry image e);
            begins = in_lexicon image 0;
            follows = λ e f. any (λ x. goes_to (entry image e) (header image).form x && in_lexicon image x f) (below (header image).lexicons);
            ends = λ e. may_stop (entry image e) (header image).form;
          } in g)
          (map_same (columns_of image) (plain_columns image) (below (header image).rules) (λ r m. sym (plain_columns_lem r (below_from (header image).rules r m))))

    -- accepted or refused as it was, and with the same number
    pub plain_verdict_lem : plain_verdict image ≡ image_verdict image
    unfolding image_verdict image_tests format_tests
    plain_verdict_lem =
        ap₂ (λ (a b : Bool). verdict_by a b (plain_columns_right image)) plain_layout_lem plain_tables_lem
        ∙ columns_after (right_layout image) (right_tables image) (plain_columns_right image) (right_columns image) (λ l t. plain_columns_right_lem (layout_limits l) t)

  -- an image that was accepted is accepted, as the same grammar
  pub kept : plain_verdict image ≡ accepted → (image_verdict image ≡ accepted) × (grammar_of image ≡ plain_grammar image)
  kept v =
      let none = plain_layout_none (true_of (plain_layout image) (passed (plain_tests image) 2 v)) in
      let l : T (right_layout image) = subst T (plain_layout_lem none) (passed (plain_tests image) 2 v) in
      let t : T (right_tables image) = subst T (plain_tables_lem none) (passed (plain_tests image) 5 v) in
      (sym (plain_verdict_lem none) ∙ v, plain_grammar_lem none (layout_limits l) t)

  -- one that has sets was refused with 3, where its length and checks are right
  pub sets_were_3 : right_length image ≡ true → right_checks image ≡ true → ((header image).sets ≡ 0 → ⊥) → plain_verdict image ≡ refused 3
  sets_were_3 e f some =
      ap (λ (a : Bool). verdict_by a (plain_tables image) (plain_columns_right image)) (false_of (plain_layout image) (λ t. some (plain_layout_none (true_of (plain_layout image) t))))
      ∙ rw (e, f) refl
