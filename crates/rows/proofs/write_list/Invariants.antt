use mathlib.Core.Path.{◌≡◌}
use Prim.Native.Nat.{◌+◌}
use lib.ListN.{length}
use Rattle.model.specs.Readings.{Reading}
use Rattle.rows.specs.Trail.{row_up_to, ListOf}
use Rattle.rows.proofs.write_list.Given as goal

abbrev pub invariant-loop-i : goal.invariant-loop-i
invariant-loop-i g l =
    (length l.row ≡ 116) × ((r : Reading) → ListOf (goal.F-post g l.number) r l.fn.row l.k l.n → l.row ≡ row_up_to r (l.k + 1 + l.i))
