use Prim.Native.Nat.{◌^◌}
use mathlib.Core.Path.{◌≡◌}
use Rattle.filter.specs.Letters.{Wrote, between}
use Rattle.filter.proofs.word.fill_bounds.Given as goal

abbrev pub invariant-loop-i : goal.invariant-loop-i
invariant-loop-i l = (l.one ≡ 2 ^ l.i) × Wrote l.rows (between l.bounds) l.masks l.i
