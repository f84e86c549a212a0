use mathlib.Core.Bool.{Bool, true, ◌&&◌}
use mathlib.Core.List.{List}
use mathlib.Core.Path.{◌≡◌}
use Prim.Native.Nat.{ℕ}
use lib.Dec.{eqb}
use Rattle.model.specs.Lists.{below, every}
use Rattle.model.specs.Blocks.{block, block_number, block_check, check_of}
use Rattle.layout.proofs.right_checks.Given as goal

-- what test 2 asks of block k
abbrev pub right : List ℕ → ℕ → Bool
right image k = eqb (block_number (block image k)) k && eqb (block_check (block image k)) (check_of (block image k))

abbrev pub invariant-loop-k : goal.invariant-loop-k
invariant-loop-k l = every (right l.image) (below l.k) ≡ true
