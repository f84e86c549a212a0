-- `breadth_of` meets its contract: a count of the pairs passed.
use native.Mathlib.Omega.{arith}
use mathlib.Core.Path.{sym, ap, ◌∙◌}
use Prim.Native.Nat.{ℕ, ◌+◌, ◌<◌}
use lib.ListN.{length}
use lib.Seq.{take_all}
use Rattle.model.specs.Lists.{count}
use Rattle.model.specs.RuleTables.{boundary_pair}
use Rattle.model.proofs.Lists.{length_map_below, get_d_map_below}
use Rattle.sets.specs.Sides.{sides_of, meets}
use Rattle.columns.specs.Passes.{pair_in, listed}
use Rattle.sets.proofs.Lists.{count_more, count_same}
use Rattle.columns.proofs.breadth_of.Goals as goal
use Rattle.columns.proofs.breadth_of.Goals.{else-column_matches, then-column_matches}

pub loop-p-preserved : goal.loop-p-preserved
loop-p-preserved c =
    let a = c.args in
    let p = c.loop-p.p in
    let f = meets (sides_of a.column) in
    let pair = pair_in a.pairs.now.lexical a.pairs.now.surface in
    let l = listed a.pairs.now.lexical a.pairs.now.surface a.n in
    let there : p < length l = omega (arith, length_map_below pair a.n) in
    let own = ap f (get_d_map_below pair a.n p boundary_pair (omega arith) ∙ sym c.pair_of.ensures) ∙ sym c.column_matches.ensures in
    elim c.if-column_matches.branch [
      | then-column_matches w ↦ (omega arith, w.breadth-is ∙ ap (λ (k : ℕ). k + 1) c.loop-p.invariant.1 ∙ sym (count_more f l p boundary_pair there (own ∙ w.if-column_matches.true)))
      | else-column_matches w ↦ (omega arith, w.breadth-is ∙ c.loop-p.invariant.1 ∙ sym (count_same f l p boundary_pair there (own ∙ w.if-column_matches.false)))
    ]

pub returns : goal.returns
returns c =
    let a = c.args in
    let pair = pair_in a.pairs.now.lexical a.pairs.now.surface in
    let l = listed a.pairs.now.lexical a.pairs.now.surface a.n in
    c.loop-p.invariant.1 ∙ ap (count (meets (sides_of a.column))) (take_all c.loop-p.p l (omega (arith, length_map_below pair a.n)))
