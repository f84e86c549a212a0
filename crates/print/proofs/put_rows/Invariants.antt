use Prim.Native.Nat.{◌+◌, ◌*◌, ◌≤◌}
use Rattle.print.specs.Text.{Put, printed_rows}
use Rattle.print.proofs.put_rows.Given as goal

abbrev pub invariant-loop-j : goal.invariant-loop-j
invariant-loop-j l = (l.end ≤ l.at + 344 * l.j) × Put l.initial.out l.out l.at l.end (printed_rows l.rows l.j)
