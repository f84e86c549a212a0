use mathlib.Core.Path.{◌≡◌}
use Prim.Native.Nat.{◌≤◌}
use lib.ListN.{take}
use Rattle.model.specs.Lists.{count}
use Rattle.sets.specs.Sides.{sides_of, meets}
use Rattle.columns.specs.Passes.{listed}
use Rattle.columns.proofs.breadth_of.Given as goal

abbrev pub invariant-loop-p : goal.invariant-loop-p
invariant-loop-p l = (l.breadth ≤ l.p) × (l.breadth ≡ count (meets (sides_of l.column)) (take l.p (listed l.pairs.lexical l.pairs.surface l.n)))
