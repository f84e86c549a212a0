-- `read_image` meets its contract: call after call, until the file ends or the buffer is full.
use Rattle.std.proofs.Common.{◌≤◌, length}
use Rattle.moving.proofs.read_image.Given as goal

abbrev pub invariant-loop : goal.invariant-loop
invariant-loop g l = l.done ≤ length l.image
