-- `left_of` meets its contract: letters are left, or none is, and then an entry is open, which its sole way on tells, or the set of its ways, or its number; or none is open.
use native.Mathlib.Omega.{arith}
use mathlib.Core.Logic.{⊎_elim}
use mathlib.Core.Path.{◌≡◌, sym, ap, subst}
use Prim.Native.Nat.{◌<◌, ◌≤◌}
use Rattle.model.specs.Blocks.{Header, header}
use Rattle.model.specs.Lexicon.{entry, may_stop, goes_to}
use Rattle.digits.specs.Ways.{Names}
use Rattle.lexicon.proofs.WayLaws.{way_sole}
use Rattle.dead.specs.Dead.{Tells}
use Rattle.dead.proofs.Keys.{letters_tell, entry_tells, way_tells, set_tells, unopened_tells}
use Rattle.dead.proofs.left_of.Goals as goal
use Rattle.dead.proofs.left_of.Goals.{After-ways_of-ways, Then-last-lt-ENDED}

pub returns-then-from-to : goal.returns-then-from-to
returns-then-from-to c = let a = c.args in letters_tell a.image.now a.place c.if-from-to.true

-- an entry is open, and no letter of it is left
module _ (c : Then-last-lt-ENDED) where
  last_in : c.args.place.last < c.args.h.entries
  last_in =
      ⊎_elim (λ e. absurd (omega (arith, c.if-last-lt-ENDED.true, e)))
      (λ r. ⊎_elim (λ e. absurd (omega (arith, c.if-last-lt-ENDED.true, e))) (λ l. omega (arith, l, ap (λ (g : Header). g.entries) c.requires.accepted.laid.header_is)) r)
      c.requires.standing.last_right

  few : (header c.args.image.now).lexicons ≤ 64
  few = omega (arith, c.requires.accepted.laid.limits.lexicons_most, ap (λ (g : Header). g.lexicons) c.requires.accepted.laid.header_is)

-- its ways on
module _ (c : After-ways_of-ways) where
  names : Names (goes_to (entry c.args.image.now c.args.place.last) (header c.args.image.now).form) c.ways_of-ways.result.bits
  names =
      subst (λ (g : Header). Names (goes_to (entry c.args.image.now c.args.place.last) g.form) c.ways_of-ways.result.bits) c.requires.accepted.laid.header_is
      c.ways_of-ways.ensures.bits

  stops : c.ways_of-ways.result.stop ≡ may_stop (entry c.args.image.now c.args.place.last) (header c.args.image.now).form
  stops =
      subst (λ (g : Header). c.ways_of-ways.result.stop ≡ may_stop (entry c.args.image.now c.args.place.last) g.form) c.requires.accepted.laid.header_is
      c.ways_of-ways.ensures.stop

pub ways_of-ways-requires : goal.ways_of-ways-requires
ways_of-ways-requires c = record { laid = c.requires.accepted.laid; e_lt_entries = last_in c }

pub returns-then-way-ne254 : goal.returns-then-way-ne254
returns-then-way-ne254 c =
    let a = c.args in
    let form = (header a.image.now).form in
    let ways = c.ways_of-ways.result in
    let after = (goal.at.returns-then-way-ne254 c).After-ways_of-ways in
    let way = way_sole (entry a.image.now a.place.last) form ways.bits ways.stop (stops after) (names after) c.sole_way-way.result c.sole_way-way.ensures in
    way_tells a.image.now a.place c.if-from-to.false c.if-last-lt-ENDED.true (few (goal.at.returns-then-way-ne254 c).Then-last-lt-ENDED) c.sole_way-way.result way c.if-way-ne254.true

pub returns-then-ways-lt35184372088832 : goal.returns-then-ways-lt35184372088832
returns-then-ways-lt35184372088832 c =
    let a = c.args in
    let ways = c.ways_of-ways.result in
    let after = (goal.at.returns-then-ways-lt35184372088832 c).After-ways_of-ways in
    let few_here = few (goal.at.returns-then-ways-lt35184372088832 c).Then-last-lt-ENDED in
    let set = set_tells a.image.now a.place c.if-from-to.false c.if-last-lt-ENDED.true few_here ways.bits ways.stop (names after) (stops after) in
    subst (Tells a.image.now a.place) (sym c.left_by.ensures) set

pub returns-then-last-lt-ENDED : goal.returns-then-last-lt-ENDED
returns-then-last-lt-ENDED c =
    let a = c.args in
    entry_tells a.image.now a.place c.if-from-to.false c.if-last-lt-ENDED.true

pub returns : goal.returns
returns c = let a = c.args in unopened_tells a.image.now a.place c.if-from-to.false
