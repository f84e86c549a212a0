use mathlib.Core.Bool.{cond}
use Prim.Native.Nat.{ℕ, min}
use Rattle.model.specs.Lists.{byte}
use Rattle.sets.specs.declared.sides.Sides.{Sides}
use Rattle.sets.specs.Sides.{sides_of, meets}
use Rattle.columns.specs.Passes.{pair_in, narrower}
use Rattle.columns.specs.declared.PairSides.{PairSides}
use Rattle.columns.specs.declared.Kept.{Kept}
use Rattle.sets.proofs.Written.{Written}
use Rattle.columns.proofs.pass_column.Given as goal

-- what is kept for pair p after the pass
abbrev pub best_after : PairSides → Sides → ℕ → ℕ → ℕ → Kept → ℕ → ℕ
best_after pairs column breadth c columns kept p =
    cond (meets (sides_of column) (pair_in pairs.lexical pairs.surface p)) (narrower breadth c columns (byte kept.best p) (byte kept.least p)) (byte kept.best p)

abbrev pub least_after : PairSides → Sides → ℕ → Kept → ℕ → ℕ
least_after pairs column breadth kept p = cond (meets (sides_of column) (pair_in pairs.lexical pairs.surface p)) (min breadth (byte kept.least p)) (byte kept.least p)

abbrev pub invariant-loop-p : goal.invariant-loop-p
invariant-loop-p l =
    Written (best_after l.pairs l.column l.breadth l.c l.columns l.initial.kept) l.initial.kept.best l.p l.kept.best
    × Written (least_after l.pairs l.column l.breadth l.initial.kept) l.initial.kept.least l.p l.kept.least
