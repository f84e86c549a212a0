use mathlib.Core.Path.{◌≡◌}
use lib.ListN.{length}
use Rattle.dead.proofs.Agreeing.{Agree}
use Rattle.dead.proofs.store.Given as goal

abbrev pub invariant-loop-at : goal.invariant-loop-at
invariant-loop-at l = (length l.slot ≡ length l.initial.slot) × Agree l.slot l.key l.at
