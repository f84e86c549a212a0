use mathlib.Core.List.{List}
use Prim.Native.Nat.{ℕ, ◌+◌, ◌<◌}
use Rattle.model.specs.Lists.{byte}
use Rattle.model.specs.RuleTables.{letter_sets, pairs_and_boundary}
use Rattle.sets.specs.Sides.{pair_number}
use Rattle.columns.specs.declared.Kept.{Kept}
use Rattle.columns.proofs.Choice.{NarrowestSoFar}
use Rattle.columns.proofs.Breadths.{matching, broad}
use Rattle.columns.proofs.find_columns.Given as goal

-- what is kept for pair p after c columns
abbrev pub KeptFor : List ℕ → List ℕ → ℕ → ℕ → Kept → ℕ → Type 0
KeptFor image t columns c kept p =
    let x = pair_number image p in
    NarrowestSoFar (matching (letter_sets image) (pairs_and_boundary image) t x) (broad (letter_sets image) (pairs_and_boundary image) t x) columns 252 c (byte kept.best p) (byte kept.least p)

abbrev pub invariant-loop-c : goal.invariant-loop-c
invariant-loop-c l = (p : ℕ) → p < l.h.pairs + 1 → KeptFor l.image l.t l.columns l.c l.kept p
