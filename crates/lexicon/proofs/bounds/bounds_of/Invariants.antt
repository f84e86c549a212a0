use mathlib.Core.Path.{◌≡◌}
use Prim.Native.Nat.{ℕ, ◌<◌}
use lib.ListN.{length}
use Rattle.model.specs.Lists.{byte}
use Rattle.lexicon.specs.Bounds.{bound_of}
use Rattle.lexicon.proofs.Rows.{rows}
use Rattle.lexicon.proofs.bounds.bounds_of.Given as goal

abbrev pub invariant-loop-j : goal.invariant-loop-j
invariant-loop-j l =
    (length l.all ≡ 208)
    × (l.places ≡ rows)
    × ((k : ℕ) → k < l.j → byte l.all k ≡ bound_of l.letter l.anything (byte rows k))
