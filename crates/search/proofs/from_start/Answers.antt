-- `from_start` meets its contract: from the root, all readings; none where a rule fails at the front.
use native.Mathlib.Omega.{arith}
use mathlib.Core.Logic.{inl}
use mathlib.Core.Path.{◌≡◌, refl, sym, ap}
use Prim.Native.Nat.{ℕ, ◌≤◌}
use mathlib.Core.List.{List}
use lib.ListN.{length, replicate, length-replicate}
use lib.Seq.{length-take-le}
use Rattle.std.proofs.lemmas.Option.{MatchOption-at_none}
use Rattle.rows.specs.Offering.{offer_all}
use Rattle.rows.specs.Fill.{put}
use Rattle.listing.specs.Asked.{path_pattern, query_by}
use Rattle.ahead.specs.Here.{opens_at}
use Rattle.model.specs.Query.{Query}
use Rattle.dead.specs.Dead.{Remembered}
use Rattle.dead.proofs.Dead.{none_remembered}
use Rattle.walk.proofs.Giving.{offered_same}
use Rattle.search.proofs.Starting.{start_underway, start_found, dead_found}
use Rattle.search.proofs.from_start.Goals as goal
use Rattle.search.proofs.from_start.Goals.{Start}

-- what is asked
abbrev query : Start → Query
query s = query_by s.args.asked s.args.path.now s.args.word.now

-- a blank table remembers nothing
blank : (image : List ℕ) (q : Query) (table : List ℕ) → (n : ℕ) × ((1 ≤ n) × (table ≡ replicate n 0)) → (1 ≤ length table) × Remembered image q table
blank image q table b = rw (b.1.1, length-replicate) (b.1.0, none_remembered image q b.0)

-- a rule fails at the front
pub returns-in_default : goal.returns-in_default
unfolding offer_all
returns-in_default c =
    let dead = MatchOption-at_none _ _ c.in_default.is c.begin_all.ensures in
    let none = dead_found c.args.image.now (query (goal.at.returns-in_default c).Start) dead in
    inl (sym (ap (offer_all (put c.args.capacity) (c.args.out.now, 0)) none))

pub prepare-many-requires : goal.prepare-many-requires
prepare-many-requires c = record { accepted = c.requires.accepted; index_value = c.requires.index_value; may_be = c.requires.may_be; masks_value = (refl, refl) }

pub slice_bounds-basis-end : goal.slice_bounds-basis-end
slice_bounds-basis-end c =
    sym (length-take-le c.prepare-many.result c.args.forms.now c.prepare-many.ensures.0)

pub invariant_of-basis : goal.invariant_of-basis
invariant_of-basis c = record { sieve = ∣ c.prepare-many.ensures.1 (path_pattern c.args.asked.path c.args.path.now) ∣₁ }

pub open-requires : goal.open-requires
unfolding opens_at
open-requires c =
    let memory = blank c.args.image.now (query (goal.at.open-requires c).Start) c.args.table.now c.requires.by_index in
    record {
      underway = start_underway c.requires.accepted c.requires.index_value c.in-Some.ensures c.no_trail-trail.ensures;
      place_value = refl;
      roomy = (c.requires.roomy, omega arith);
      in_bounds = memory;
    }

pub returns : goal.returns
returns c =
    let found = start_found c.requires.accepted c.requires.index_value c.in-Some.ensures c.no_trail-trail.ensures (query (goal.at.returns c).Start) in
    offered_same found refl c.open.ensures.rows
