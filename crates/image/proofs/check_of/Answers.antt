-- `check_of` meets its contract: one remainder, after the last byte.
use native.Mathlib.Omega.{arith}
use native.Mathlib.Nat.{mod-lt}
use mathlib.Core.Path.{ap}
use Prim.Native.Nat.{ℕ, ◌+◌, ◌%◌}
use Rattle.model.specs.Blocks.{check_of}
use Rattle.image.proofs.check_of.Goals as goal

pub returns : goal.returns
unfolding check_of
returns c = (ap (λ (n : ℕ). (1 + n) % 65521) c.weighted_sum.ensures.0, mod-lt (1 + c.weighted_sum.result) {m = 65521} (omega arith))
