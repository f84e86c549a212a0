use lib.ListN.{take, drop}
use Rattle.positions.specs.Stack.{Stacked}
use Rattle.positions.proofs.stack.descend.Given as goal

abbrev pub invariant-loop-k : goal.invariant-loop-k
invariant-loop-k l = Stacked l.masks l.flags l.start (take l.len (drop l.from l.slots)) l.stack l.k
