use mathlib.Core.Path.{◌≡◌}
use Prim.Native.Nat.{◌+◌}
use lib.ListN.{drop}
use Rattle.model.specs.Lists.{below, every}
use Rattle.letters.specs.Marks.{is_marked}
use Rattle.letters.proofs.marks.each_marked.Given as goal

abbrev pub invariant-loop-a : goal.invariant-loop-a
invariant-loop-a l = every (is_marked l.marks) (drop l.a (below (l.letters + 1))) ≡ every (is_marked l.marks) (drop 2 (below (l.letters + 1)))
