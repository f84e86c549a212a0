-- `write_text` meets its contract: call after call, until all of the text has gone out.
use Rattle.std.proofs.Common.{◌≤◌, length}
use Rattle.moving.proofs.write_text.Given as goal

abbrev pub invariant-loop : goal.invariant-loop
invariant-loop g l = l.done ≤ length l.text
