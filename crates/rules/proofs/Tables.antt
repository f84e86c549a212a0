-- Reading the rule tables of an accepted image: a table's bytes in the image, and where a rule in a state finds its next one.
use Prim.Native.Nat.{ℕ, zero, suc, ◌+◌, ◌*◌, ◌-◌, ◌<◌, ◌≤◌}
use native.Mathlib.Omega.{arith}
use mathlib.Core.Path.{◌≡◌, refl, sym, ap, ap₂, ◌∙◌}
use mathlib.Core.List.{List, []}
use lib.ListN.{get_or}
use lib.Dec.{T}
use Rattle.model.specs.Lists.{byte}
use Rattle.model.specs.Blocks.{Header, header}
use Rattle.model.specs.RuleTables.{table, column_count, state_count, rows_at, is_final, next_state, is_table, columns_of}
use Rattle.model.specs.GrammarOf.{grammar_of}
use Rattle.model.specs.Refusals.{right_tables, right_columns}
use Rattle.model.proofs.Booleans.{of_true}
use Rattle.model.proofs.Lists.{get_d_map_below}
use Rattle.tables.proofs.Laws.{right_table, right_column, row_before, next_most}
use Rattle.image.specs.Accepted.{Accepted}

-- an image that is accepted by a header is accepted by its own
pub accepted_here : {image : List ℕ} {h : Header} → Accepted image h → Accepted image (header image)
accepted_here a = rw a.laid.header_is at a

-- the grammar's counts are the header's
module _ (image : List ℕ) where
  pub grammar_rules : (grammar_of image).rules ≡ (header image).rules
  unfolding grammar_of
  grammar_rules = refl

  pub grammar_pairs : (grammar_of image).pairs ≡ (header image).pairs
  unfolding grammar_of
  grammar_pairs = refl

-- the rules of an accepted image
module _ {image : List ℕ} (ok : Accepted image (header image)) where
  pub table_ok : (r : ℕ) → r < (header image).rules → T (is_table (table image r) (header image).letters (header image).sets)
  table_ok r h = right_table image (of_true (right_tables image) ok.tables_right) r h

  pub grammar_next : (r s p : ℕ) → r < (header image).rules → (grammar_of image).next r s p ≡ next_state (table image r) s (get_or (columns_of image r) p 0)
  unfolding grammar_of
  grammar_next r s p h =
      ap₂ (λ (t c : List ℕ). next_state t s (get_or c p 0)) (get_d_map_below (table image) (header image).rules r [] h) (get_d_map_below (columns_of image) (header image).rules r [] h)

  pub grammar_final : (r s : ℕ) → r < (header image).rules → (grammar_of image).final r s ≡ is_final (table image r) s
  unfolding grammar_of
  grammar_final r s h = ap (λ (t : List ℕ). is_final t s) (get_d_map_below (table image) (header image).rules r [] h)

  -- where rule r, in state s, finds its next state by a column
  pub next_byte : (r s p : ℕ) → r < (header image).rules → p ≤ (header image).pairs → 1 ≤ s → s ≤ state_count (table image r)
      → (rows_at (table image r) + (column_count (table image r) * (s - 1) + get_or (columns_of image r) p 0) < 506)
      × ((grammar_of image).next r s p ≡ byte (table image r) (rows_at (table image r) + (column_count (table image r) * (s - 1) + get_or (columns_of image r) p 0)))
      × ((grammar_of image).next r s p ≤ state_count (table image r))
  unfolding next_state
  next_byte r zero p h k l m = absurd (omega arith)
  next_byte r (suc s) p h k l m =
      let t = table image r in
      let c = get_or (columns_of image r) p 0 in
      let right = table_ok r h in
      let column = right_column image (of_true (right_columns image) ok.columns_right) r p h k in
      let n = next_most t (header image).letters (header image).sets right (suc s) c m column in
      let g = grammar_next r (suc s) p h in
      let e : (grammar_of image).next r (suc s) p ≡ byte t (rows_at t + (column_count t * s + c)) = g ∙ ap (byte t) (omega arith) in
      let w : column_count t * (suc s - 1) ≡ column_count t * s = ap (λ (n : ℕ). column_count t * n) (omega arith) in
      (omega (arith, row_before t (header image).letters (header image).sets right s c (omega arith) column), e ∙ ap (λ (n : ℕ). byte t (rows_at t + (n + c))) (sym w), omega (arith, g, n))

  -- a next state is one of the table
  pub next_within : (r s p : ℕ) → r < (header image).rules → p ≤ (header image).pairs → 1 ≤ s → s ≤ state_count (table image r) → (grammar_of image).next r s p ≤ state_count (table image r)
  next_within r s p h k l m = (next_byte r s p h k l m).2
