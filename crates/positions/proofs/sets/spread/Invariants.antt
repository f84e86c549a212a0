use Prim.Native.Nat.{◌<◌, ◌-◌, ◌^◌}
use mathlib.Core.Path.{◌≡◌}
use Rattle.positions.specs.Masks.{spread_mask}
use Rattle.positions.proofs.sets.spread.Given as goal

abbrev pub invariant-loop-k : goal.invariant-loop-k
invariant-loop-k l = record { in_word : l.all < 2 ^ 33; rounds : spread_mask (8 - l._k) l.inserts l.all ≡ spread_mask 8 l.inserts l.m }
