-- `pair_sides` meets its contract: the pairs passed have their sides in the two arrays.
use native.Mathlib.Omega.{arith}
use mathlib.Core.Path.{◌≡◌, ap, ◌∙◌}
use Prim.Native.Nat.{◌+◌}
use Rattle.letters.proofs.Laws.{laid_pairs}
use Rattle.model.specs.Blocks.{header}
use Rattle.columns.specs.Passes.{listed}
use Rattle.columns.proofs.Passes.{listed_all}
use Rattle.columns.proofs.pair_sides.Goals as goal

pub returns : goal.returns
returns c =
    let l = c.loop-p in
    let e = laid_pairs c.requires in
    let n : c.args.h.pairs + 1 ≡ (header c.args.image.now).pairs + 1 = omega arith in
    ap (listed l.lexical l.surface) n ∙ listed_all c.args.image.now l.lexical l.surface (λ p h. l.invariant.0.done p (omega arith)) (λ p h. l.invariant.1.done p (omega arith))
