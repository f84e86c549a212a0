use mathlib.Core.Path.{◌≡◌}
use Prim.Native.Nat.{◌*◌}
use lib.ListN.{length}
use Rattle.image.proofs.Stores.{sealed_to}
use Rattle.image.proofs.seal.seal.Given as goal

abbrev pub invariant-loop-k : goal.invariant-loop-k
invariant-loop-k l = (length l.initial.image ≡ 512 * l.k-end) × (l.image ≡ sealed_to l.initial.image l.k)
