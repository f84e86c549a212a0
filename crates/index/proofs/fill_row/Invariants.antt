use mathlib.Core.Path.{◌≡◌}
use Prim.Native.Nat.{◌≤◌}
use lib.ListN.{length}
use Rattle.index.proofs.Candidates.{row_of, found}
use Rattle.index.proofs.fill_row.Given as goal

abbrev pub invariant-loop-p : goal.invariant-loop-p
invariant-loop-p l = record { few : l.n ≤ l.p; counted : l.n ≡ length (found l.image l.a.0 l.p); stored : l.row ≡ row_of (found l.image l.a.0 l.p) }
