use Prim.Native.Nat.{ℕ, ◌+◌}
use mathlib.Core.Bool.{Bool}
use mathlib.Core.Path.{◌≡◌}
use mathlib.Core.List.{List}
use lib.ListN.{get_or, drop}
use lib.Dec.{eqb}
use Rattle.model.specs.Lists.{any}
use Rattle.model.specs.RuleTables.{code_points}
use Rattle.letters.proofs.letter_alone.Given as goal

-- one of the letters from j on is the same as letter i
abbrev pub again : List ℕ → ℕ → ℕ → Bool
again image i j = any (eqb (get_or (code_points image) i 0)) (drop j (code_points image))

abbrev pub invariant-loop-j : goal.invariant-loop-j
invariant-loop-j l = again l.image l.i (l.i + 1) ≡ again l.image l.i l.j
