-- `filter::after::after_slot` meets its contract: a slot's own number says what its entry's one way on is; where it says nothing, all of them are taken together.
use Prim.Native.Nat.{ℕ, ◌<◌}
use native.Mathlib.Omega.{arith}
use mathlib.Core.Path.{sym, ap, subst}
use lib.Dec.{T}
use Rattle.model.specs.Blocks.{Header, header}
use Rattle.model.specs.Lexicon.{entry}
use Rattle.lexicon.specs.Sole.{WayOf}
use Rattle.forms.specs.Slots.{slot_entry}
use Rattle.image.specs.Header.{header_of}
use Rattle.positions.specs.Stack.{reach_of}
use Rattle.filter.specs.Sets.{Means}
use Rattle.filter.specs.Lexicons.{after_in}
use Rattle.filter.proofs.Afterward.{way_means, end_means}
use Rattle.filter.proofs.after.after_slot.Goals as goal
use Rattle.filter.proofs.after.after_slot.Goals.{After-onward-onward}

-- the slot's number is read
module _ (c : After-onward-onward) where
  abbrev way : ℕ
  way = c.onward-onward.result

  inside : slot_entry c.args.slots.now c.args.i < c.args.h.entries
  inside = omega (arith, c.requires.reached.1.entry_in, ap (λ (g : Header). g.entries) c.requires.accepted.laid.header_is)

  way_is : WayOf (entry c.args.image.now (slot_entry c.args.slots.now c.args.i)) (header c.args.image.now).form way
  way_is = subst (WayOf (entry c.args.image.now (slot_entry c.args.slots.now c.args.i)) (header c.args.image.now).form) (sym c.onward-onward.ensures) c.requires.reached.1.onward

pub returns-then-onward-lt64 : goal.returns-then-onward-lt64
returns-then-onward-lt64 c =
    let a = c.args in
    way_means a.image.now (header_of a.h) c.requires.accepted a.reach.now (slot_entry a.slots.now a.i) (inside (goal.at.returns-then-onward-lt64 c).After-onward-onward) (way (goal.at.returns-then-onward-lt64 c).After-onward-onward) (way_is (goal.at.returns-then-onward-lt64 c).After-onward-onward) c.if-onward-lt64.true

pub returns-then-onward-eq255 : goal.returns-then-onward-eq255
returns-then-onward-eq255 c =
    let a = c.args in
    end_means a.image.now (header_of a.h) c.requires.accepted a.reach.now (slot_entry a.slots.now a.i) (inside (goal.at.returns-then-onward-eq255 c).After-onward-onward) (way (goal.at.returns-then-onward-eq255 c).After-onward-onward) (way_is (goal.at.returns-then-onward-eq255 c).After-onward-onward) c.if-onward-eq255.true

pub over_ways-requires : goal.over_ways-requires
over_ways-requires c = record { accepted = c.requires.accepted; reached = (c.requires.reached.0, omega (arith, c.entry.ensures.0, inside (goal.at.over_ways-requires c).After-onward-onward)) }

pub returns : goal.returns
returns c =
    let a = c.args in
    subst (λ (e : ℕ). Means c.over_ways.result (λ k. T (after_in a.image.now (reach_of a.reach.now) e k))) c.entry.ensures.0 c.over_ways.ensures
