use mathlib.Core.Path.{◌≡◌}
use mathlib.Core.List.{List}
use Prim.Native.Nat.{ℕ, ◌-◌}
use lib.ListN.{drop}
use Rattle.contexts.specs.Context.{Context}
use Rattle.contexts.specs.Reader.{read_stars}
use Rattle.contexts.specs.Fuel.{starred}
use Rattle.matching.proofs.skip_stars.Given as goal

-- the bytes from `at` to `end` are stars
abbrev pub Passed : List ℕ → ℕ → ℕ → Type 0
Passed t at end = (c : Context) → read_stars c (drop at t) ≡ read_stars (starred (end - at) c) (drop end t)

abbrev pub invariant-loop-end : goal.invariant-loop-end
invariant-loop-end l = Passed l.text l.at l.end
