-- `filter::after::over_ways` meets its contract: what is taken so far, and what the lexicons left would add, is what may come after the entry; each turn takes the
-- lowest of them, so that the set that is left falls.
use Prim.Native.Nat.{ℕ}
use native.Mathlib.Omega.{arith}
use mathlib.Core.Path.{sym, subst}
use lib.ListN.{get_or}
use lib.Bits.{bit_or}
use lib.Pow.{pow_pos}
use Rattle.image.specs.Header.{header_of}
use Rattle.digits.proofs.Bits.{digit_most}
use Rattle.filter.proofs.Afterward.{Taken, taken_end, taken_none, taken_more, taken_all}
use Rattle.filter.proofs.after.over_ways.Goals as goal
use Rattle.filter.proofs.after.over_ways.Goals.{else-ways, then-ways}

pub ways_of-ways-requires : goal.ways_of-ways-requires
ways_of-ways-requires c = record { laid = c.requires.accepted.laid; e_lt_entries = c.requires.reached.1 }

pub loop-rest-init : goal.loop-rest-init
loop-rest-init c =
    let a = c.args in
    let ways = c.ways_of-ways in
    let first : ℕ → Type 0 = Taken a.image.now a.reach.now a.e ways.result.bits in
    let end = taken_end a.image.now (header_of a.h) c.requires.accepted a.reach.now a.e c.requires.reached.1 ways.result.bits (omega arith) ways.ensures.bits in
    let none = taken_none a.image.now (header_of a.h) c.requires.accepted a.reach.now a.e c.requires.reached.1 ways.result.bits (omega arith) ways.ensures.bits in
    elim c.if-ways.branch [
      | then-ways v ↦ subst first (sym v.m-is) (end ways.result.stop ways.ensures.stop v.if-ways.true)
      | else-ways v ↦ subst first (sym v.m-is) (none ways.result.stop ways.ensures.stop v.if-ways.false)
    ]

pub without-rest-requires : goal.without-rest-requires
without-rest-requires c = (c.lowest-x.ensures.0.there, c.lowest-x.ensures.1)

pub bounds-reach-x : goal.bounds-reach-x
bounds-reach-x c = omega (arith, c.lowest-x.ensures.1, c.requires.reached.0)

pub loop-rest-smaller : goal.loop-rest-smaller
loop-rest-smaller c =
    let x = c.lowest-x in omega
    (arith, c.without-rest.ensures, digit_most c.loop-rest.rest x.result x.ensures.0.there, pow_pos x.result)

pub loop-rest-preserved : goal.loop-rest-preserved
loop-rest-preserved c =
    let a = c.args in
    let x = c.lowest-x in
    subst (λ (rest : ℕ). Taken a.image.now a.reach.now a.e rest (bit_or c.loop-rest.m (get_or a.reach.now x.result 0))) (sym c.without-rest.ensures)
    (taken_more a.image.now (header_of a.h) c.requires.accepted a.reach.now a.e c.requires.reached.1 c.loop-rest.rest c.loop-rest.m x.result c.loop-rest.invariant x.ensures.0.there)

pub returns : goal.returns
returns c =
    let a = c.args in
    taken_all a.image.now (header_of a.h) c.requires.accepted a.reach.now a.e c.requires.reached.1 c.loop-rest.rest c.loop-rest.m c.loop-rest.invariant c.loop-rest-test.false
