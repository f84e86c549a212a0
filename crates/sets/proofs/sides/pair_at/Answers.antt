-- `pair_at` meets its contract: the listed pairs, and after them the boundary pair, 1:1.
use native.Mathlib.Omega.{arith}
use mathlib.Core.Path.{◌≡◌, sym, ap, ◌∙◌}
use Rattle.model.specs.Blocks.{header}
use Rattle.letters.proofs.Laws.{laid_pairs}
use Rattle.sets.specs.Sides.{pair_number}
use Rattle.sets.proofs.Pairs.{pair_listed, boundary_last}
use Rattle.sets.proofs.sides.pair_at.Goals as goal

pub returns-then-p-h : goal.returns-then-p-h
returns-then-p-h c = c.pair_at.ensures ∙ sym (pair_listed c.args.image.now c.args.p)

pub returns : goal.returns
returns c =
    let q = laid_pairs c.requires.laid in
    let e : c.args.p ≡ (header c.args.image.now).pairs = omega arith in
    sym (ap (pair_number c.args.image.now) e ∙ boundary_last c.args.image.now)
