-- `open_block` meets its contract: zeros, and two bytes over them.
use Prim.Native.Nat.{ℕ}
use native.Mathlib.Omega.{arith}
use mathlib.Core.Path.{ap, ◌∙◌}
use mathlib.Core.List.{List}
use lib.ListN.{set}
use Rattle.converter.proofs.Stores.{zeros}
use Rattle.converter.proofs.blocks.open_block.Goals as goal

pub overflow_cast-block : goal.overflow_cast-block
overflow_cast-block c = record { fits = omega (arith, c.requires.1) }

pub bounds-block-2 : goal.bounds-block-2
bounds-block-2 c = omega (arith, c.fill.auto.self, c.requires.0)

pub returns : goal.returns
returns c =
    ap (λ (l : List ℕ). set (set l 2 6) 3 c.args.n) (c.fill.ensures.after (λ y e. e) ∙ ap zeros c.requires.0)
