-- Rows of columns: what keeping those of a rule stores, its columns and zeros after them. Past the last rule a row is empty.
use Prim.Native.Nat.{ℕ, ◌+◌, ◌*◌, ◌-◌, ◌<◌, ◌≤◌}
use native.Mathlib.Omega.{arith}
use mathlib.Core.Bool.{Bool}
use mathlib.Core.Path.{◌≡◌, refl, sym, ap, ◌∙◌}
use mathlib.Core.List.{List, ◌++◌}
use lib.ListN.{length, take, drop, replicate, length-append, length-take, length-replicate}
use lib.Dec.{ltb}
use lib.Seq.{take-append-add}
use borrow.Author.Tests.{lt-ltb, le-ltb}
use Rattle.model.specs.Lists.{below, given, flat_map}
use Rattle.model.specs.Blocks.{header}
use Rattle.model.specs.RuleTables.{columns_of}
use Rattle.model.proofs.Lists.{length_below}
use Rattle.model.proofs.Parts.{length_parts}
use Rattle.image.specs.Index.{index_row, column_row}
use Rattle.tables.proofs.Laws.{length_columns_of}
use Rattle.tables.proofs.RowByRow.{take_replicate, drop_replicate}

pub length_index_row : (xs : List ℕ) → length (index_row xs) ≡ 256
unfolding index_row
length_index_row xs = omega (arith, length-take 256 (xs ++ replicate 256 0), length-append xs (replicate 256 0), length-replicate {A = ℕ} 256 0)

module _ (image : List ℕ) where
  pub length_column_row : (r : ℕ) → length (column_row image r) ≡ 256
  unfolding column_row
  length_column_row r = length_index_row (given (ltb r (header image).rules) (columns_of image r))

  pub columns_part : length (flat_map (column_row image) (below 32)) ≡ 8192
  columns_part = length_parts 256 (column_row image) (below 32) (λ r m. length_column_row r) ∙ ap (λ (n : ℕ). 256 * n) (length_below 32)

-- bytes at the front of zeros
row_begun : (xs : List ℕ) (n : ℕ) → n ≡ length xs → n ≤ 256 → xs ++ drop n (replicate 256 0) ≡ index_row xs
unfolding index_row
row_begun xs n e h =
    let m : length xs + (256 - n) ≡ 256 = omega arith in
    ap (λ (l : List ℕ). xs ++ l) (drop_replicate (replicate 256 0) 256 n n (256 - n) 0 refl refl (omega arith))
    ∙ sym (ap (λ (i : ℕ). take i (xs ++ replicate 256 0)) (sym m) ∙ take-append-add xs (replicate 256 0) (256 - n) ∙ ap (λ (l : List ℕ). xs ++ l) (take_replicate (256 - n) 256 0 (omega arith)))

module _ (image : List ℕ) (r : ℕ) where
  pub columns_stored : (n : ℕ) (row : List ℕ) → r < (header image).rules → n ≡ (header image).pairs → n < 256 → row ≡ replicate 256 0 → columns_of image r ++ drop (n + 1) row ≡ column_row image r
  unfolding column_row
  columns_stored n row h e k f =
      ap (λ (l : List ℕ). columns_of image r ++ drop (n + 1) l) f
      ∙ row_begun (columns_of image r) (n + 1) (omega (arith, length_columns_of image r)) (omega arith)
      ∙ ap (λ (b : Bool). index_row (given b (columns_of image r))) (sym (lt-ltb r (header image).rules h))

  pub no_columns : (header image).rules ≤ r → column_row image r ≡ replicate 256 0
  unfolding column_row index_row
  no_columns h = ap (λ (b : Bool). index_row (given b (columns_of image r))) (le-ltb r (header image).rules h) ∙ take_replicate 256 256 0 (omega arith)
