-- Where a table's columns stand, and the pairs with the boundary pair after them.
use Prim.Native.Nat.{ℕ, zero, suc, ◌+◌, ◌*◌}
use native.Mathlib.Omega.{arith}
use mathlib.Core.Path.{◌≡◌, refl, ap, ◌∙◌}
use mathlib.Core.List.{List, [], ◌∷◌, ◌++◌}
use lib.ListN.{length, get_or, length-append}
use lib.Seq.{get_or_at}
use Rattle.model.specs.Lists.{byte}
use Rattle.model.specs.Blocks.{header}
use Rattle.model.specs.RuleTables.{Pair, Sides, column, pairs, boundary_pair, pairs_and_boundary}
use Rattle.letters.proofs.Laws.{length_pairs}
use Rattle.sets.specs.Sides.{sides_from, pair_number}

abbrev sides_with : ℕ → ℕ → Sides
sides_with x y = record { lexical = x; surface = y }

pub column_from : (t : List ℕ) (c : ℕ) → sides_from t (2 + 2 * c) ≡ column t c
unfolding column
column_from t c = let e : 2 + 2 * c + 1 ≡ 3 + 2 * c = omega arith in ap (λ (n : ℕ). sides_with (byte t (2 + 2 * c)) (byte t n)) e

module _ (image : List ℕ) where
  pub length_pairs_and_boundary : length (pairs_and_boundary image) ≡ (header image).pairs + 1
  unfolding pairs_and_boundary
  length_pairs_and_boundary = length-append (pairs image) (boundary_pair ∷ []) ∙ ap (λ (n : ℕ). n + 1) (length_pairs image)

  -- a pair by its number among the listed ones; past them stands the boundary pair
  pub pair_listed : (p : ℕ) → pair_number image p ≡ get_or (pairs image) p boundary_pair
  unfolding pairs_and_boundary
  pair_listed p = go (pairs image) p
    where
      go : (l : List Pair) (i : ℕ) → get_or (l ++ (boundary_pair ∷ [])) i boundary_pair ≡ get_or l i boundary_pair
      go [] zero = refl
      go [] (suc i) = refl
      go (x ∷ l) zero = refl
      go (x ∷ l) (suc i) = go l i

  pub boundary_last : pair_number image (header image).pairs ≡ boundary_pair
  unfolding pairs_and_boundary
  boundary_last = get_or_at (pairs image) boundary_pair [] boundary_pair (header image).pairs (length_pairs image)
