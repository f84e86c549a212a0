use Prim.Native.Nat.{◌<◌}
use Rattle.dead.proofs.hash_of.Given as goal

abbrev pub invariant-loop-n : goal.invariant-loop-n
invariant-loop-n l = l.x < 4294967296
