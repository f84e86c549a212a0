-- `filter::onward::lexicon_back` meets its contract: of the slots before i the union is made, and each turn adds one.
use Prim.Native.Nat.{ℕ}
use native.Mathlib.Omega.{arith}
use mathlib.Core.Path.{◌≡◌, subst}
use Rattle.filter.specs.Unions.{UnionOf}
use Rattle.filter.proofs.Unions.{union_none, union_more}
use Rattle.filter.proofs.onward.lexicon_back.Goals as goal

pub loop-i-init : goal.loop-i-init
loop-i-init c =
    let a = c.args in
    union_none a.image.now a.reach.now a.slots.now a.masks.now a.flags.now a.low

pub entry_back-m-requires : goal.entry_back-m-requires
entry_back-m-requires c =
    let more = c.loop-i-test.true in
    record {
      accepted = c.requires.accepted;
      filled = c.requires.filled;
      reached = c.requires.reached;
      formed = c.requires.formed.0;
      i_lt_high = (more, c.requires.by_index c.loop-i.i c.loop-i.auto.i more);
    }

pub loop-i-preserved : goal.loop-i-preserved
loop-i-preserved c =
    let a = c.args in
    let more = union_more a.image.now a.reach.now a.slots.now a.masks.now a.flags.now a.low c.loop-i.i c.loop-i.m c.entry_back-m.result in
    more c.loop-i.auto.i c.loop-i.invariant c.entry_back-m.ensures

pub returns : goal.returns
returns c =
    let a = c.args in
    let end : c.loop-i.i ≡ a.high = omega (arith, c.loop-i-test.false, c.loop-i.auto.i-end, c.requires.formed.1) in
    subst (λ (x : ℕ). UnionOf a.image.now a.reach.now a.slots.now a.masks.now a.flags.now a.low x c.loop-i.m) end c.loop-i.invariant
