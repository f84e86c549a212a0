use mathlib.Core.Bool.{Bool, true}
use mathlib.Core.List.{List}
use mathlib.Core.Path.{◌≡◌}
use Prim.Native.Nat.{ℕ}
use Rattle.model.specs.Lists.{below, every}
use Rattle.model.specs.Blocks.{Header, block, laid_out}
use Rattle.image.specs.Header.{header_of}
use Rattle.layout.proofs.all_laid_out.Given as goal

abbrev pub right : List ℕ → Header → ℕ → Bool
right image h k = laid_out h k (block image k)

abbrev pub invariant-loop-k : goal.invariant-loop-k
invariant-loop-k l = every (right l.image (header_of l.h)) (below l.k) ≡ true
