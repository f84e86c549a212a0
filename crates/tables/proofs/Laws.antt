-- What an image that is laid out and passes tests 6 and 7 gives the layers that read its tables.
use Prim.Native.Nat.{ℕ, zero, suc, ◌+◌, ◌*◌, ◌<◌, ◌≤◌}
use native.Mathlib.Nat.{le_refl, mul-suc, mul-le-mul, add_assoc}
use native.Mathlib.Omega.{arith}
use mathlib.Core.Bool.{Bool, ◌&&◌}
use mathlib.Core.Path.{◌≡◌, refl, sym, ap, subst, ◌∙◌}
use mathlib.Core.List.{List, ◌++◌}
use lib.ListN.{length, get_or, take, drop}
use lib.Seq.{get_or-take, get_or-drop}
use lib.Dec.{T, leb, ltb, leb→le, le→leb, ltb→lt}
use Rattle.model.specs.Lists.{below, every, byte}
use Rattle.model.specs.Blocks.{Header, header, kinds, record_start}
use Rattle.model.specs.RuleTables.{letter_sets, is_set, table, column_count, state_count, marks_at, rows_at, is_table, next_state, columns_of}
use Rattle.model.specs.Refusals.{right_tables, right_columns}
use Rattle.model.proofs.Booleans.{and_out, out5, true_of}
use Rattle.model.proofs.Lists.{every_at, below_has}
use Rattle.image.specs.Laid.{Laid}
use Rattle.image.proofs.Records.{record_inside, record_part, record_length, record_byte}
use Rattle.columns.specs.Breadths.{Columned, columns_by}
use Rattle.model.proofs.Rest.{every_get_d}
use Rattle.sets.proofs.Lists.{every_get_d_any}
use Rattle.tables.proofs.Bounds.{counts, sides, marks, nexts, rest, table_is, counts_bound}
use Rattle.columns.proofs.Breadths.{length_columns}

module _ (image : List ℕ) (h : Header) (laid : Laid image h) where
  -- the table of a rule, a record of kind 4, as it stands in the image
  pub table_inside : (r i : ℕ) → r < h.rules → i < 506 → record_start h 4 r + i < length image
  unfolding kinds
  table_inside r i k l = record_inside laid 4 r i k l

  pub table_byte : (r i : ℕ) → i < 506 → byte (table image r) i ≡ byte image (record_start h 4 r + i)
  unfolding kinds
  table_byte r i l = record_byte laid 4 r i l

  pub table_part : (r : ℕ) → table image r ≡ take 506 (drop (record_start h 4 r) image)
  unfolding kinds
  table_part r = record_part laid 4 r

  pub table_length : (r : ℕ) → r < h.rules → length (table image r) ≡ 506
  unfolding kinds
  table_length r k = record_length laid 4 r k

  -- test 6 by the counts that were read
  pub tables_read : (every (is_set h.letters) (letter_sets image) && every (λ r. is_table (table image r) h.letters h.sets) (below h.rules)) ≡ right_tables image
  unfolding right_tables
  tables_read = ap (λ (k : Header). every (is_set k.letters) (letter_sets image) && every (λ r. is_table (table image r) k.letters k.sets) (below k.rules)) laid.header_is

  -- and test 7
  pub columns_read : every (λ r. every (λ c. ltb c (column_count (table image r))) (columns_of image r)) (below h.rules) ≡ right_columns image
  unfolding right_columns
  columns_read = ap (λ (k : Header). every (λ r. every (λ c. ltb c (column_count (table image r))) (columns_of image r)) (below k.rules)) laid.header_is

-- a table that passes test 6
module _ (t : List ℕ) (letters sets : ℕ) (right : T (is_table t letters sets)) where
  parts : T (counts t letters sets) × T (sides t letters sets) × T (marks t letters sets) × T (nexts t letters sets) × T (rest t letters sets)
  parts = out5 (counts t letters sets) (sides t letters sets) (marks t letters sets) (nexts t letters sets) (rest t letters sets) (subst T (table_is t letters sets) right)

  bounds : (1 ≤ column_count t) × (column_count t ≤ 16) × (1 ≤ state_count t) × (state_count t ≤ 24) × (column_count t * state_count t ≤ 384)
  bounds = counts_bound (column_count t) (state_count t) (true_of (counts t letters sets) parts.0)

  pub columns_least : 1 ≤ column_count t
  columns_least = bounds.0

  pub columns_most : column_count t ≤ 16
  columns_most = bounds.1

  pub states_least : 1 ≤ state_count t
  states_least = bounds.2

  pub states_most : state_count t ≤ 24
  states_most = bounds.3

  -- the place of a row's next state among the rows
  in_rows : (s c : ℕ) → s < state_count t → c < column_count t → column_count t * s + c < column_count t * state_count t
  in_rows s c h k = omega (arith, mul-le-mul {n₁ = column_count t} {m₁ = suc s} {n₂ = column_count t} {m₂ = state_count t} (le_refl (column_count t)) h, mul-suc (column_count t) s)

  -- what is read of a table stands in its record: the mark of state s + 1, and the next states of its row
  pub mark_before : (s : ℕ) → s < state_count t → marks_at t + s < 506
  mark_before s h = let b = bounds in omega arith

  pub row_before : (s c : ℕ) → s < state_count t → c < column_count t → rows_at t + column_count t * s + c < 506
  row_before s c h k = let b = bounds in omega (arith, in_rows s c h k)

  -- a next state is a state, or 0
  pub next_most : (s c : ℕ) → s ≤ state_count t → c < column_count t → next_state t s c ≤ state_count t
  unfolding next_state
  next_most zero c h k = omega arith
  next_most (suc s) c h k =
      let n = column_count t * s + c in
      let i = in_rows s c h k in
      let e : get_or (take (column_count t * state_count t) (drop (rows_at t) t)) n 0 ≡ byte t (rows_at t + column_count t * s + c) =
      get_or-take (column_count t * state_count t) (drop (rows_at t) t) n 0 i ∙ get_or-drop (rows_at t) t n 0 ∙ ap (byte t) (sym (add_assoc (rows_at t) (column_count t * s) c)) in
      subst (λ (x : ℕ). x ≤ state_count t) e
      (leb→le (get_or (take (column_count t * state_count t) (drop (rows_at t) t)) n 0) (state_count t)
      (every_get_d_any (λ b. leb b (state_count t)) 0 (take (column_count t * state_count t) (drop (rows_at t) t)) n (le→leb 0 (state_count t) (omega arith)) parts.3))

module _ (image : List ℕ) where
  -- each table of an image that passes test 6
  pub right_table : T (right_tables image) → (r : ℕ) → r < (header image).rules → T (is_table (table image r) (header image).letters (header image).sets)
  unfolding right_tables
  right_table t r h =
      every_at (λ r. is_table (table image r) (header image).letters (header image).sets) (below (header image).rules) (below_has (header image).rules r h)
      (and_out (every (is_set (header image).letters) (letter_sets image)) (every (λ r. is_table (table image r) (header image).letters (header image).sets) (below (header image).rules)) t).1

  columns_are : (r : ℕ) → columns_by image (table image r) ≡ columns_of image r
  unfolding columns_of
  columns_are r = refl

  -- what a table that was read gives, said of the rule
  pub columns_written : (r : ℕ) (t out rest : List ℕ) → t ≡ table image r → out ≡ columns_by image t ++ rest → out ≡ columns_of image r ++ rest
  columns_written r t out rest e k = k ∙ ap (λ (x : List ℕ). columns_by image x ++ rest) e ∙ ap (λ (l : List ℕ). l ++ rest) (columns_are r)

  pub columns_tested : (r : ℕ) (t : List ℕ) (b : Bool) → t ≡ table image r → b ≡ every (λ c. ltb c (column_count t)) (columns_by image t) → b ≡ every (λ c. ltb c (column_count (table image r))) (columns_of image r)
  columns_tested r t b e k = k ∙ ap (λ (x : List ℕ). every (λ c. ltb c (column_count x)) (columns_by image x)) e ∙ ap (every (λ c. ltb c (column_count (table image r)))) (columns_are r)

  pub length_columns_of : (r : ℕ) → length (columns_of image r) ≡ (header image).pairs + 1
  length_columns_of r = ap length (sym (columns_are r)) ∙ length_columns image (table image r)

  -- each column taken in an image that passes test 7 is one of the table's
  pub right_column : T (right_columns image) → (r p : ℕ) → r < (header image).rules → p ≤ (header image).pairs → get_or (columns_of image r) p 0 < column_count (table image r)
  unfolding right_columns
  right_column t r p h k =
      let i : p < length (columns_of image r) = omega (arith, length_columns_of r) in
      ltb→lt (get_or (columns_of image r) p 0) (column_count (table image r))
      (every_get_d (λ c. ltb c (column_count (table image r))) (columns_of image r) p 0 i
      (every_at (λ r. every (λ c. ltb c (column_count (table image r))) (columns_of image r)) (below (header image).rules) (below_has (header image).rules r h) t))

-- a table that was read of an image that passes test 6
pub read_columned : (image : List ℕ) (h : Header) → Laid image h → T (right_tables image) → (r : ℕ) → r < h.rules
    → (t : List ℕ) → t ≡ table image r → length t ≡ 506 → (c : ℕ) → c ≡ column_count t → Columned t c
read_columned image h laid right r k t e l c q =
    let i : r < (header image).rules = subst (λ (x : Header). r < x.rules) laid.header_is k in
    let m : column_count t ≤ 16 = subst (λ (x : List ℕ). column_count x ≤ 16) (sym e) (columns_most (table image r) (header image).letters (header image).sets (right_table image right r i)) in
    record { count = q; most = omega arith; long = omega arith }
