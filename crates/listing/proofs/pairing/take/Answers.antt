-- `take` meets its contract: each test in turn, and the place after the pair.
use native.Mathlib.Omega.{arith}
use mathlib.Core.Path.{refl}
use Prim.Native.Nat.{◌≤◌}
use Rattle.model.specs.Query.{Pattern, Query}
use Rattle.image.specs.Header.{header_of}
use Rattle.listing.specs.Asked.{word_query}
use Rattle.listing.specs.Places.{with_last}
use Rattle.listing.proofs.Taking.{image_most, SpellsOn, refused_nulls, refused_level, refused_rules, took}
use Rattle.listing.proofs.pairing.take.Goals as goal
use Rattle.listing.proofs.pairing.take.Goals.{Start}

-- the model's tests
module _ (s : Start) where
  abbrev query : Pattern → Query
  query = word_query s.args.asked s.args.word.now

  spells_on : SpellsOn s.args.image.now (with_last s.args.place s.args.last) s.args.p
  spells_on = record { stands = s.requires.standing; spells_on = s.requires.t }

pub lexical_side-requires : goal.lexical_side-requires
lexical_side-requires c = (c.requires.accepted.laid, c.requires.p_lt_pairs)

pub spell-requires : goal.spell-requires
spell-requires c =
    let stands = c.requires.standing in
    (stands.nulls_in, omega (arith, image_most c.args.image.now (header_of c.args.h) c.requires.accepted, stands.in_order, stands.in_image))

pub returns-in_err-spelled : goal.returns-in_err-spelled
returns-in_err-spelled c t =
    let start = (goal.at.returns-in_err-spelled c).Start in
    let nulls = rw c.lexical_side.ensures at c.in_err-spelled.ensures in
    rw c.from_residual.ensures (refused_nulls (query start t) (spells_on start) refl nulls)

pub surface_side-requires : goal.surface_side-requires
surface_side-requires c = (c.requires.accepted.laid, c.requires.p_lt_pairs)

pub returns-in_err-surface : goal.returns-in_err-surface
returns-in_err-surface c t =
    let start = (goal.at.returns-in_err-surface c).Start in
    let spelled = rw c.lexical_side.ensures at c.in_ok-spelled.ensures in
    let level = rw c.surface_side.ensures at c.in_err-surface.ensures in
    rw c.from_residual-in_err-surface.ensures (refused_level (query start t) (spells_on start) refl spelled.may level)

pub step_all-requires : goal.step_all-requires
step_all-requires c =
    let p : c.args.p ≤ c.args.h.pairs = omega (arith, c.requires.p_lt_pairs) in
    record { accepted = c.requires.accepted; index_value = c.requires.index_value; p_le_pairs = p; live = c.requires.standing.states_live }

pub returns-in_err-states : goal.returns-in_err-states
returns-in_err-states c t =
    let start = (goal.at.returns-in_err-states c).Start in
    let spelled = rw c.lexical_side.ensures at c.in_ok-spelled.ensures in
    let passed = rw c.surface_side.ensures at c.in_ok-surface.ensures in
    rw c.from_residual-in_err-states.ensures (refused_rules (query start t) (spells_on start) refl spelled.may passed.may c.in_err-states.ensures)

pub returns : goal.returns
returns c t =
    let start = (goal.at.returns c).Start in
    let spelled = rw c.lexical_side.ensures at c.in_ok-spelled.ensures in
    let passed = rw c.surface_side.ensures at c.in_ok-surface.ensures in
    let stepped = c.in_ok-states.ensures in
    took (query start t) (spells_on start) refl
    (record {
      from_is = spelled.from_is;
      to_is = refl;
      last_is = refl;
      nulls_are = spelled.nulls_are;
      level_is = passed.go;
      states_are = stepped.states_are;
      nulls_in = spelled.nulls_in;
      level_in = passed.bounded;
      states_live = stepped.live;
    })
    spelled.may passed.may stepped.alive_is
