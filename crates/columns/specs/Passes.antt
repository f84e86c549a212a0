-- The pairs by their sides, each level by itself, and what a pass over them keeps for each pair.
use Rattle.std.specs.Prelude.{ℕ, ◌+◌, ◌<◌, Bool, cond, List, map, ◌≡◌, length, ltb, eqb, min}
use Rattle.model.specs.Lists.{below, count, byte}
use Rattle.model.specs.Blocks.{header}
use Rattle.model.specs.RuleTables.{Pair, Sides, letter_sets, pairs_and_boundary, column_for}
use Rattle.sets.specs.Sides.{pair_number}

module _ (lexical surface : List ℕ) where
  -- pair p
  abbrev pub pair_in : ℕ → Pair
  pair_in p = record { lexical = byte lexical p; surface = byte surface p }

  -- the first n pairs
  abbrev pub listed : ℕ → List Pair
  listed n = map pair_in (below n)

-- the column kept after column c, which matches and has a breadth, where `best` was kept, of breadth `least`: `columns` where two are narrowest
abbrev pub narrower : ℕ → ℕ → ℕ → ℕ → ℕ → ℕ
narrower breadth c columns best least = cond (ltb breadth least) c (cond (eqb breadth least) columns best)

-- what is kept for the first pairs before a pass and after it, by which of them the column matches
pub record Passed (matched : ℕ → Bool) (pairs breadth c columns : ℕ) (best least best' least' : List ℕ) : Type 0 where
  pub best_size : length best' ≡ length best
  pub least_size : length least' ≡ length least
  pub best_is : (p : ℕ) → p < pairs → byte best' p ≡ cond (matched p) (narrower breadth c columns (byte best p) (byte least p)) (byte best p)
  pub least_is : (p : ℕ) → p < pairs → byte least' p ≡ cond (matched p) (min breadth (byte least p)) (byte least p)

-- the same by letters, or by sets
module _ (lexical surface : List ℕ) (pairs : ℕ) (column : Sides) where
  abbrev pub PassedBy : (Sides → Pair → Bool) → ℕ → ℕ → List ℕ → List ℕ → List ℕ → List ℕ → Type 0
  PassedBy matching = Passed (λ p. matching column (pair_in lexical surface p)) pairs (count (matching column) (listed lexical surface pairs))

-- the column that each pair takes
pub record Chosen (image t best : List ℕ) : Type 0 where
  pub each : (p : ℕ) → p < (header image).pairs + 1 → byte best p ≡ column_for (letter_sets image) (pairs_and_boundary image) t (pair_number image p)

-- the first n bytes
abbrev pub front : ℕ → List ℕ → List ℕ
front n bytes = map (byte bytes) (below n)
