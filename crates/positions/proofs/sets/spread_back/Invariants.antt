use Prim.Native.Nat.{◌-◌}
use mathlib.Core.Path.{◌≡◌}
use Rattle.positions.specs.Masks.{back_spread_mask}
use Rattle.positions.proofs.sets.spread_back.Given as goal

abbrev pub invariant-loop-k : goal.invariant-loop-k
invariant-loop-k l = back_spread_mask (8 - l._k) l.inserts l.all ≡ back_spread_mask 8 l.inserts l.m
