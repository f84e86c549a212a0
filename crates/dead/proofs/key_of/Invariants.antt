use mathlib.Core.Path.{◌≡◌}
use Prim.Native.Nat.{◌+◌}
use lib.ListN.{length}
use Rattle.dead.specs.declared.Left.{Left}
use Rattle.dead.specs.Dead.{Tells, key_by}
use Rattle.dead.proofs.Agreeing.{Agree}
use Rattle.dead.proofs.key_of.Given as goal

abbrev pub invariant-loop-i : goal.invariant-loop-i
invariant-loop-i l =
    (length l.key ≡ 40) × ((left : Left) × Tells l.image l.place left × Agree l.key (key_by l.image left l.place l.entries l.pairs) (l.i + 8))
