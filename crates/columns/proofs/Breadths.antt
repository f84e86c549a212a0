-- The breadths of a table's columns, and the columns that are taken by them.
use Prim.Native.Nat.{ℕ, ◌+◌, ◌<◌, ◌≤◌}
use native.Mathlib.Nat.{le_refl}
use native.Mathlib.Omega.{arith}
use mathlib.Core.Path.{◌≡◌, refl, ◌∙◌}
use mathlib.Core.Bool.{Bool}
use mathlib.Core.List.{List}
use lib.ListN.{length, get_or, length-map, get_or-map}
use Rattle.model.specs.Blocks.{Header, header}
use Rattle.model.specs.RuleTables.{Pair, Sides, boundary_pair, letter_sets, pairs_and_boundary, column, column_count, matches, breadth, takes_column, column_for}
use Rattle.image.specs.Laid.{Laid}
use Rattle.letters.proofs.Laws.{laid_pairs}
use Rattle.sets.specs.Sides.{pair_number}
use Rattle.columns.specs.Breadths.{columns_by}
use Rattle.sets.proofs.Lists.{count_length}
use Rattle.sets.proofs.Pairs.{length_pairs_and_boundary}
use Rattle.columns.proofs.Choice.{narrowest, first_most}

-- no column is broader than all pairs
pub breadth_most : {image : List ℕ} {h : Header} → Laid image h → (c : Sides) → breadth (letter_sets image) (pairs_and_boundary image) c < 252
breadth_most {image} l c = omega (arith, laid_pairs l, l.limits.pairs_most, count_length (matches (letter_sets image) c) (pairs_and_boundary image), length_pairs_and_boundary image)

module _ (sets : List (List ℕ)) (ps : List Pair) (t : List ℕ) (p : Pair) where
  abbrev pub matching : ℕ → Bool
  matching c = matches sets (column t c) p

  abbrev pub broad : ℕ → ℕ
  broad c = breadth sets ps (column t c)

  -- C at most
  pub taken_most : column_for sets ps t p ≤ column_count t
  unfolding column_for
  taken_most = first_most _ (column_count t) (column_count t) (column_count t) (le_refl (column_count t)) (le_refl (column_count t))

  -- the narrowest by these two is the column that the definition takes
  pub narrowest_is : narrowest matching broad (column_count t) ≡ column_for sets ps t p
  unfolding column_for takes_column
  narrowest_is = refl

-- the list of columns, by the number of the pair
module _ (image t : List ℕ) where
  pub length_columns : length (columns_by image t) ≡ (header image).pairs + 1
  length_columns = length-map (pairs_and_boundary image) (column_for (letter_sets image) (pairs_and_boundary image) t) ∙ length_pairs_and_boundary image

  -- the column that stands past the end
  abbrev pub column_past : ℕ
  column_past = column_for (letter_sets image) (pairs_and_boundary image) t boundary_pair

  pub columns_at : (p : ℕ) → get_or (columns_by image t) p column_past ≡ column_for (letter_sets image) (pairs_and_boundary image) t (pair_number image p)
  columns_at p = get_or-map (column_for (letter_sets image) (pairs_and_boundary image) t) (pairs_and_boundary image) p boundary_pair
