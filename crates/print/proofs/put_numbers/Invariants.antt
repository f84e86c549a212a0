use Prim.Native.Nat.{◌+◌, ◌*◌, ◌≤◌}
use Rattle.model.specs.Lines.{spaced}
use Rattle.print.specs.Text.{Put, numbers_from}
use Rattle.print.proofs.put_numbers.Given as goal

abbrev pub invariant-loop-i : goal.invariant-loop-i
invariant-loop-i l = (l.end ≤ l.at + 6 * l.i) × Put l.initial.out l.out l.at l.end (spaced (numbers_from l.row l.from l.i))
