use Prim.Native.Nat.{◌+◌, ◌*◌, ◌≤◌}
use lib.ListN.{get_or}
use Rattle.sum.proofs.Totals.{Added, Run}
use Rattle.sum.proofs.sum_of_columns.Given as goal

abbrev pub invariant-loop-c : goal.invariant-loop-c
invariant-loop-c l =
    Run 8 (λ i. get_or l.k.sums i 0) l.c l.sum l.by_column
    × (Added 8 (λ i. get_or l.k.rows i 0) l.c l.by_row
    × (Added 8 (λ i. get_or l.k.strips i 0) l.c l.by_strip
    × ((l.sum + 65535 * l.c ≤ 524280) × ((l.by_column + 524280 * l.c ≤ 4194240) × ((l.by_row + 65535 * l.c ≤ 524280) × (l.by_strip + 65535 * l.c ≤ 524280))))))
