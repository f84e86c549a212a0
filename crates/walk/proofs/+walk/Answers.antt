-- Opening an entry and pairing its letters call each other. Where the path may end, that is offered first, and then what each entry that opens finds; at a letter, what is
-- complete here, and then what each pair finds that may be taken.
use Prim.Native.Nat.{ℕ, suc, ◌+◌, ◌<◌, ◌≤◌}
use Rattle.ahead.proofs.Candidates.{Candidate, candidate_spells}
use Rattle.ahead.proofs.FirstLetters.{Known, known_more, known_none}
use Rattle.ahead.proofs.Heads.{Opening, Pairing, Settled, candidate_one, end_fills, entry_few, entry_none_lem, last_in, letter_in, open_last, open_less, open_offered, open_parts, open_turn}
use Rattle.ahead.proofs.Heads.{open_underway, pair_found, pair_last, pair_less, pair_none, pair_offered, pair_turn, pair_underway, settled_left, settled_over, stop_fills, stop_less}
use Rattle.ahead.proofs.Heads.{stop_turn, stop_underway}
use Rattle.ahead.proofs.Standing.{not_ended}
use Rattle.dead.proofs.Dead.{dead_again}
use Rattle.dead.specs.Dead.{Remembered}
use Rattle.image.specs.Header.{header_of}
use Rattle.image.specs.Index.{candidates}
use Rattle.listing.proofs.Searching.{stop_one, stop_unasked}
use Rattle.listing.specs.Asked.{path_pattern}
use Rattle.listing.specs.Opening.{NextOf, may_enter}
use Rattle.listing.specs.Places.{node_of, rest_of, stops_after, with_last}
use Rattle.listing.specs.Search.{entry_one, found_at, node_at}
use Rattle.listing.specs.declared.place.Place.{Place}
use Rattle.model.proofs.Booleans.{and_out, of_true, true_of}
use Rattle.model.specs.Blocks.{Header, header}
use Rattle.model.specs.GrammarOf.{grammar_of}
use Rattle.model.specs.Lists.{below, flat_map, given}
use Rattle.model.specs.Query.{Pattern, Query}
use Rattle.model.specs.Readings.{Reading}
use Rattle.model.specs.Tree.{complete, go_at}
use Rattle.rows.proofs.Fill.{put_keeps}
use Rattle.rows.proofs.Longer.{longer_entry, longer_pair}
use Rattle.rows.proofs.Offering.{offer_none}
use Rattle.rows.specs.Fill.{Roomy, put}
use Rattle.rows.specs.Offering.{offer_all}
use Rattle.rows.specs.Trail.{Holds, reading_of, with_entry, with_pair}
use Rattle.walk.proofs.Choosing.{chosen_listed}
use Rattle.walk.proofs.Giving.{gave_first, gave_next, gave_none, gave_same, gave_turn, offered_all, offered_none, offered_same, roomy_kept}
use Rattle.walk.proofs.Sieved.{sieve_had}
use Rattle.walk.proofs.Turns.{Turns, state_is, turns_all, turns_far, turns_is, turns_more, turns_none, turns_skip, turns_stop}
use Rattle.walk.specs.Basis.{query_of}
use Rattle.walk.specs.Offered.{Offered}
use lib.ListN.{get_or, length, set}
use lib.Seq.{length-take-le}
use mathlib.Core.Bool.{Bool, false, true, ◌&&◌}
use mathlib.Core.List.{List, [], ◌∷◌}
use mathlib.Core.Logic.{inl, inr, ⊎_elim}
use mathlib.Core.Path.{ap, refl, subst, sym, ◌∙◌, ◌≡◌}
use native.Mathlib.Decide.{dec_lt}
use native.Mathlib.Omega.{arith}
use Rattle.walk.proofs.+walk.Invariants.{Tabled}
use borrow.Author.Rules.{rules}
use Rattle.ahead.proofs.here.candidate.Reads as candidate-reads
use Rattle.ahead.proofs.here.candidate_count.Reads as candidate_count-reads
use Rattle.ahead.proofs.here.goes_on.Reads as goes_on-reads
use Rattle.ahead.proofs.here.next_letter.Reads as next_letter-reads
use Rattle.ahead.proofs.here.put_ended.Reads as put_ended-reads
use Rattle.ahead.proofs.starts.first_letter.Reads as first_letter-reads
use Rattle.ahead.proofs.starts.look.Reads as look-reads
use Rattle.listing.proofs.opening.next_entry.Reads as next_entry-reads
use Rattle.listing.proofs.opening.ways_on.Reads as ways_on-reads
use Rattle.listing.proofs.pairing.take.Reads as take-reads
use Rattle.listing.proofs.place.enter.Reads as enter-reads
use Rattle.walk.proofs.+walk.Lts-open_each as open_each-lts
use Rattle.walk.proofs.+walk.Lts-pair_each as pair_each-lts
use Rattle.walk.proofs.open.Reads as open-reads
use Rattle.walk.proofs.open_each.Reads as open_each-reads
use Rattle.walk.proofs.pair.Reads as pair-reads
use Rattle.walk.proofs.pair_each.Reads as pair_each-reads
use Rattle.walk.proofs.+walk.Goals as goal
use Rattle.walk.proofs.+walk.Goals.{open-After-stop-stopped, open-Else-trail-ge16, open-Joined-ends_here, open-Start, open-else-ends_here, open-then-ends_here+else-capacity-n}
use Rattle.walk.proofs.+walk.Goals.{open_each-After-first_letter-letter, open_each-After-ways_on-opening, open_each-In-loop-e, open_each-Joined-known-at-eq0, open_each-Start}
use Rattle.walk.proofs.+walk.Goals.{open_each-else-known-at-eq0, open_each-else-known-at-ne1, open_each-then-known-at-eq0, open_each-then-known-at-ne1+else-capacity-n}
use Rattle.walk.proofs.+walk.Goals.{open_listed-After-pair-n, open_listed-In-loop-e, open_listed-Start, pair-After-pair_each-n, pair-Start, pair_each-After-candidate-p}
use Rattle.walk.proofs.+walk.Goals.{pair_each-After-candidate_count-many, pair_each-After-take-taken, pair_each-In-loop-k, pair_each-Joined-place, pair_each-Start, pair_each-else-place}
use Rattle.walk.proofs.+walk.Goals.{pair_each-in_default, pair_each-then-place+else-goes_on+else-capacity-n, pair_each-in-Some+else-capacity-n-2}

-- places, without what the types tell there
abbrev Plain-open_each-After-first_letter-letter : ℕ → Type 0
Plain-open_each-After-first_letter-letter t =
    open_each-lts.After-first_letter (
      ways_on-reads.Asked,
      ways_on-reads.Learnt,
      next_entry-reads.Asked,
      next_entry-reads.Learnt,
      first_letter-reads.Asked,
      first_letter-reads.Learnt,
      look-reads.Asked,
      look-reads.Learnt,
      enter-reads.Asked,
      enter-reads.Learnt,
      goal.pair-below t,
      pair-reads.Post,
    ) (goal.open_each-at t) open_each-reads.Post goal.the-open_each-invariant-loop-e goal.the-open_each-decreases-loop-e (goal.the-clauses-open_each t)

abbrev Plain-pair_each-Joined-place : ℕ → Type 0
Plain-pair_each-Joined-place t =
    pair_each-lts.Joined1 (
      goes_on-reads.Asked,
      goes_on-reads.Learnt,
      goal.open-below t,
      open-reads.Post,
      put_ended-reads.Asked,
      put_ended-reads.Learnt,
      next_letter-reads.Asked,
      next_letter-reads.Learnt,
      candidate_count-reads.Asked,
      candidate_count-reads.Learnt,
      candidate-reads.Asked,
      candidate-reads.Learnt,
      take-reads.Asked,
      take-reads.Learnt,
      goal.pair-below t,
      pair-reads.Post,
    ) (goal.pair_each-at t) pair_each-reads.Post goal.the-pair_each-invariant-loop-k goal.the-pair_each-decreases-loop-k (goal.the-clauses-pair_each t)

abbrev Plain-pair_each-After-candidate_count-many : ℕ → Type 0
Plain-pair_each-After-candidate_count-many t =
    pair_each-lts.After-candidate_count (
      goes_on-reads.Asked,
      goes_on-reads.Learnt,
      goal.open-below t,
      open-reads.Post,
      put_ended-reads.Asked,
      put_ended-reads.Learnt,
      next_letter-reads.Asked,
      next_letter-reads.Learnt,
      candidate_count-reads.Asked,
      candidate_count-reads.Learnt,
      candidate-reads.Asked,
      candidate-reads.Learnt,
      take-reads.Asked,
      take-reads.Learnt,
      goal.pair-below t,
      pair-reads.Post,
    ) (goal.pair_each-at t) pair_each-reads.Post goal.the-pair_each-invariant-loop-k goal.the-pair_each-decreases-loop-k (goal.the-clauses-pair_each t)

-- from a place to one before it
abbrev pair_each_place : (t : ℕ) → Plain-pair_each-After-candidate_count-many t → Plain-pair_each-Joined-place t
pair_each_place t c = let half = c.before.before.before.before in half.before.before.before.before

abbrev pair_each_turn : (t : ℕ) → pair_each-After-candidate-p t → pair_each-In-loop-k t
pair_each_turn t c = c.before.before.before.before

-- `open`: Where the path may end, that is offered first; then all entries that may open are, or those that the filter leaves.

abbrev open_query : (t : ℕ) → open-Start t → Query
open_query t s = query_of s.args.basis.now

-- whether the path ends here
pub open-ends_here-requires : goal.open-ends_here-requires
open-ends_here-requires t c = let underway = c.requires.underway in record { accepted = underway.accepted; standing = underway.stands }

pub open-pair-n-requires : goal.open-pair-n-requires
open-pair-n-requires t c =
    let place = c.stop-stopped in
    let o = c.requires.place_value in
    let less = stop_less c.requires.underway o place.result place.ensures.go (query_of c.args.basis.now) in
    (omega (arith, c.decreases, less), (stop_underway c.requires.underway o place.result place.ensures.go place.ensures.stands, (c.requires.roomy, c.requires.in_bounds)))

-- it may end here, and what is asked lets it
open_stops : (image : List ℕ) (q : Query) (last entries : ℕ) {r : Bool} → r ≡ (stops_after image last && q.entries.may_end entries) → r ≡ true → stops_after image last ≡ true
open_stops image q last entries e h = true_of _ (and_out (stops_after image last) (q.entries.may_end entries) (of_true _ (sym e ∙ h))).0

pub open-returns-then-capacity-n : goal.open-returns-then-capacity-n
open-returns-then-capacity-n t c =
    let a = c.args in
    let o = c.requires.place_value in
    let may = open_stops a.basis.now.image.now (query_of a.basis.now) a.place.last a.trail.entries c.ends_here.ensures c.if-ends_here.true in
    let turn = stop_turn c.requires.underway o c.stop-stopped.result c.stop-stopped.ensures.go (query_of c.args.basis.now) may in record {
      rows = ⊎_elim
          (λ e. inl (stop_fills c.requires.underway (query_of c.args.basis.now) (put a.capacity) (a.out.now, a.found) (put_keeps a.capacity) c.if-capacity-n.true o e))
          (λ g. inr (gave_same (sym (open_parts c.requires.underway (query_of c.args.basis.now) o)) (gave_first _ g)))
          (offered_same turn refl c.pair-n.ensures.rows);
      table = c.pair-n.ensures.table;
    }

-- what the ending finds has been offered
open_ending : (t : ℕ) → (w : open-Joined-ends_here t) → let a = w.args in
    (w.if-ends_here.out, w.if-ends_here.n) ≡ offer_all (put a.capacity) (a.out.now, a.found) (stop_one a.basis.now.image.now (query_of w.args.basis.now) a.place a.trail)
open_ending t w =
    let a = w.args in
    let asked = w.ends_here.ensures in
    let offered : List Reading → List ℕ × ℕ = offer_all (put a.capacity) (a.out.now, a.found) in
    elim w.if-ends_here.branch [
      | open-then-ends_here+else-capacity-n v ↦ let turn = stop_turn w.requires.underway w.requires.place_value v.stop-stopped.result v.stop-stopped.ensures.go
          (query_of w.args.basis.now) (open_stops a.basis.now.image.now (query_of a.basis.now) a.place.last a.trail.entries asked v.if-ends_here.true) in
          state_is (offered_all (omega (arith, v.if-capacity-n.false)) (offered_same turn refl v.pair-n.ensures.rows)) v.out-is v.n-is
      | open-else-ends_here v ↦ state_is
          (sym (ap offered (stop_unasked a.basis.now.image.now (query_of w.args.basis.now) a.place a.trail (sym asked ∙ v.if-ends_here.false)) ∙ offer_none _ _)) v.out-is v.n-is
    ]

open_kept : (t : ℕ) → (w : open-Joined-ends_here t) → length w.if-ends_here.out ≡ length w.args.out.now
open_kept t w = elim w.if-ends_here.branch [
  | open-then-ends_here+else-capacity-n v ↦ ap length v.out-is ∙ v.pair-n.auto.out
  | open-else-ends_here v ↦ ap length v.out-is
]

open_roomy : (t : ℕ) → (w : open-Joined-ends_here t) → Roomy w.if-ends_here.out w.args.capacity × (w.if-ends_here.n ≤ w.args.capacity)
open_roomy t w = (
  roomy_kept (open_kept t w) w.requires.roomy.0,
  elim w.if-ends_here.branch [
    | open-then-ends_here+else-capacity-n v ↦ omega (arith, v.n-is, v.if-capacity-n.false)
    | open-else-ends_here v ↦ omega (arith, v.n-is, w.requires.roomy.1)
  ],
)

open_tabled : (t : ℕ) → (w : open-Joined-ends_here t) → Tabled w.args.basis.now.image.now (query_of w.args.basis.now) w.args.table.now w.if-ends_here.table
open_tabled t w =
    let known : List ℕ → Type 0 = Tabled w.args.basis.now.image.now (query_of w.args.basis.now) w.args.table.now in
    elim w.if-ends_here.branch [
      | open-then-ends_here+else-capacity-n v ↦ subst known (sym v.table-is) (v.pair-n.auto.table, v.pair-n.ensures.table)
      | open-else-ends_here v ↦ subst known (sym v.table-is) (refl, w.requires.in_bounds.1)
    ]

-- what the call asks of the table
open_lent : (t : ℕ) → (w : open-Joined-ends_here t) → (1 ≤ length w.if-ends_here.table) × Remembered w.args.basis.now.image.now (query_of w.args.basis.now) w.if-ends_here.table
open_lent t w = (omega (arith, (open_tabled t w).0, w.requires.in_bounds.0), (open_tabled t w).1)

-- with no entry to spare
pub open-returns-then-trail-ge16 : goal.open-returns-then-trail-ge16
open-returns-then-trail-ge16 t c =
    record {
      rows = inl (open_ending t (goal.at.open-returns-then-trail-ge16 t c).Joined-ends_here ∙ ap (offer_all (put c.args.capacity) (c.args.out.now, c.args.found))
          (sym (open_last c.requires.underway (query_of c.args.basis.now) c.requires.place_value c.if-trail-ge16.true)));
      table = (open_tabled t
          (goal.at.open-returns-then-trail-ge16 t c).Joined-ends_here).1;
    }

open_opening : (t : ℕ) → (c : open-Else-trail-ge16 t) → let a = c.args in Opening a.basis.now.image.now a.basis.now.index.now (header_of a.basis.now.h) a.place a.trail
open_opening t c = record { underway = c.requires.underway; open_here = c.requires.place_value; spare = c.if-trail-ge16.false }

-- what the entries offer comes after it
open_whole : (t : ℕ) → (c : open-Else-trail-ge16 t) {state : List ℕ × ℕ} → let a = c.args in
    Offered a.capacity (c.if-ends_here.out, c.if-ends_here.n) (flat_map (entry_one a.basis.now.image.now (query_of c.args.basis.now) a.place a.trail) (below a.basis.now.h.entries)) state
    (length c.if-ends_here.table)
    → Offered a.capacity (a.out.now, a.found) (found_at a.basis.now.image.now (query_of c.args.basis.now) a.place a.trail) state (length a.table.now)
open_whole t c o =
    let a = c.args in
    ⊎_elim
    (λ e. inl (open_offered (open_opening t c) (query_of c.args.basis.now) (put a.capacity) (a.out.now, a.found) (open_ending t c.before.before) e))
    (λ g. inr (gave_same (sym (open_parts c.requires.underway (query_of c.args.basis.now) c.requires.place_value)) (gave_next _ (open_ending t c.before.before) g)))
    (offered_same refl (open_tabled t c.before.before).0 o)

pub open-choose-requires : goal.open-choose-requires
open-choose-requires t c =
    let underway = c.requires.underway in
    let query = open_query t (goal.at.open-choose-requires t c).Start in
    let letters = underway.stands.surface_in.letters_in in
    let sieve = sieve_had c.args.basis.now.sieve in
    record { accepted = underway.accepted; index_value = underway.indexed; fact = last_in underway c.requires.place_value; letters_bound = (letters, omega arith); sieve = (query, sieve) }

-- all that may open
pub open-open_each-requires : goal.open-open_each-requires
open-open_each-requires t c = (
  omega (arith, c.decreases),
  (
    c.requires.underway,
    (
      (c.requires.place_value, c.if-trail-ge16.false),
      (open_roomy t (goal.at.open-open_each-requires t c).Joined-ends_here, open_lent t (goal.at.open-open_each-requires t c).Joined-ends_here),
    ),
  ),
)

pub open-returns-in_default : goal.open-returns-in_default
open-returns-in_default t c = record { rows = open_whole t (goal.at.open-returns-in_default t c).Else-trail-ge16 c.open_each.ensures.rows; table = c.open_each.ensures.table }

-- those that the filter leaves
pub open-slice_bounds-open_listed-end : goal.open-slice_bounds-open_listed-end
open-slice_bounds-open_listed-end t c = sym (length-take-le c.in-Some.many c.choose.new.list (omega (arith, c.in-Some.ensures.0, c.choose.auto.list)))

pub open-open_listed-requires : goal.open-open_listed-requires
open-open_listed-requires t c =
    let spare = c.if-trail-ge16.false in
    let listed = chosen_listed (sieve_had c.args.basis.now.sieve) spare c.in-Some.ensures.1 in (
      omega (arith, c.decreases),
      (
        c.requires.underway,
        (
          (c.requires.place_value, spare),
          (
            listed,
            (open_roomy t (goal.at.open-open_listed-requires t c).Joined-ends_here, open_lent t (goal.at.open-open_listed-requires t c).Joined-ends_here),
          ),
        ),
      ),
    )

pub open-returns : goal.open-returns
open-returns t c = record { rows = open_whole t (goal.at.open-returns t c).Else-trail-ge16 c.open_listed.ensures.rows; table = c.open_listed.ensures.table }

-- `open_each`: At the loop's head an `Opening` is known, and the next entry that may open; each turn offers what it finds, or passes over it where it finds nothing.

-- none may open before the next one
before_next : {may : ℕ → Bool} {bound e low : ℕ} → ((k : ℕ) → k < low → may k ≡ false) → NextOf may bound low e → (k : ℕ) → k < e → may k ≡ false
before_next {may} {bound} {e} {low} before next k h = go (dec_lt k low)
  where
    go : Dec (k < low) → may k ≡ false
    go (yes l) = before k l
    go (no l) = next.passed k (omega arith) h

abbrev open_each_query : (t : ℕ) → open_each-Start t → Query
open_each_query t s = query_of s.args.basis.now

open_each_opening : (t : ℕ) → (w : open_each-Start t) → let a = w.args in Opening a.basis.now.image.now a.basis.now.index.now (header_of a.basis.now.h) a.place a.trail
open_each_opening t w = record { underway = w.requires.underway; open_here = w.requires.place_value.0; spare = w.requires.place_value.1 }

pub open_each-ways_on-opening-requires : goal.open_each-ways_on-opening-requires
open_each-ways_on-opening-requires t c =
    let underway = c.requires.underway in
    record { accepted = underway.accepted; index_value = underway.indexed; fact = last_in underway c.requires.place_value.0 }

open_each_entries_are : (t : ℕ) → (w : open_each-After-ways_on-opening t) → let a = w.args in a.basis.now.h.entries ≡ (header a.basis.now.image.now).entries
open_each_entries_are t w = ap (λ (g : Header). g.entries) w.requires.underway.accepted.laid.header_is

pub open_each-next_entry-first-requires : goal.open_each-next_entry-first-requires
open_each-next_entry-first-requires t c =
    let underway = c.requires.underway in
    let ways = c.ways_on-opening.ensures.ways in
    let entries = open_each_entries_are t (goal.at.open_each-next_entry-first-requires t c).After-ways_on-opening in
    record { accepted = underway.accepted; index_value = underway.indexed; known = ways.known; low_le_from = (omega arith, omega (arith, ways.low_in, entries)) }

pub open_each-loop-e-init : goal.open_each-loop-e-init
open_each-loop-e-init t c =
    let a = c.args in
    let next = c.next_entry-first.ensures _ c.ways_on-opening.ensures.ways in
    let e = c.next_entry-first.result.entry in
    let finds : ℕ → List Reading = entry_one a.basis.now.image.now (query_of c.args.basis.now) a.place a.trail in
    let none : (k : ℕ) → k < e
    → finds k
    ≡ [] = λ k h. entry_none_lem (open_each_opening t (goal.at.open_each-loop-e-init t c).Start) (query_of c.args.basis.now) k
    (before_next c.ways_on-opening.ensures.before next.next k h) in
    let passes : e < a.basis.now.h.entries
    → may_enter a.basis.now.image.now (query_of c.args.basis.now).entries a.place.last a.trail.entries e
    ≡ true = λ h. next.next.passes (omega (arith, h, open_each_entries_are t (goal.at.open_each-loop-e-init t c).After-ways_on-opening)) in (
      (refl, c.requires.in_bounds.1),
      (
        (next.ways, (omega (arith, next.low_is), (omega (arith, next.next.in_bound, open_each_entries_are t (goal.at.open_each-loop-e-init t c).After-ways_on-opening), passes))),
        ((refl, c.requires.roomy.1), (turns_far e turns_none (omega arith) (λ k i h. none k h), known_none)),
      ),
    )

pub open_each-first_letter-letter-requires : goal.open_each-first_letter-letter-requires
open_each-first_letter-letter-requires t c = record { accepted = (open_each_opening t (goal.at.open_each-first_letter-letter-requires t c).Start).underway.accepted; e_lt_entries = c.loop-e-test.true }

-- what is known of its first letter
open_each_letter_few : (t : ℕ) → (c : Plain-open_each-After-first_letter-letter t) → c.first_letter-letter.result.0 < 128
open_each_letter_few t c = omega (arith, c.first_letter-letter.ensures.1, c.requires.underway.accepted.laid.limits.letters_most)

pub open_each-bounds-known-at : goal.open_each-bounds-known-at
open_each-bounds-known-at t c = open_each_letter_few t (goal.at.open_each-bounds-known-at t c).After-first_letter-letter.before

pub open_each-look-requires : goal.open_each-look-requires
open_each-look-requires t c =
    let underway = (open_each_opening t (goal.at.open_each-look-requires t c).Start).underway in
    record { accepted = underway.accepted; index_value = underway.indexed; standing = underway.stands; e_lt_entries = (c.loop-e-test.true, c.first_letter-letter.ensures) }

pub open_each-bounds-known-at-then-known-at-eq0 : goal.open_each-bounds-known-at-then-known-at-eq0
open_each-bounds-known-at-then-known-at-eq0 t c = open_each_letter_few t (goal.at.open_each-bounds-known-at-then-known-at-eq0 t c).After-first_letter-letter.before

open_each_looked : (t : ℕ) → (c : open_each-Joined-known-at-eq0 t) → Known c.args.basis.now.image.now (query_of c.args.basis.now) c.args.place c.args.trail c.if-known-at-eq0.known
open_each_looked t c =
    let loop = c.loop-e in
    let letter = c.first_letter-letter in
    let a = c.args in
    elim c.if-known-at-eq0.branch [
      | open_each-then-known-at-eq0 v ↦ rw v.known-is
          (known_more loop.invariant.1.1.1.1 loop.e letter.result.0 v.look.result (open_each_letter_few t c.before.before.before) letter.ensures.0
          (v.look.ensures (path_pattern a.basis.now.asked.path a.basis.now.path.now)))
      | open_each-else-known-at-eq0 v ↦ rw v.known-is loop.invariant.1.1.1.1
    ]

pub open_each-bounds-known-at-in-loop-e : goal.open_each-bounds-known-at-in-loop-e
open_each-bounds-known-at-in-loop-e t c = open_each_letter_few t (goal.at.open_each-bounds-known-at-in-loop-e t c).After-first_letter-letter.before

-- its entry opens
pub open_each-enter-next-requires : goal.open_each-enter-next-requires
open_each-enter-next-requires t c =
    let underway = (open_each_opening t (goal.at.open_each-enter-next-requires t c).Start).underway in
    record { accepted = underway.accepted; standing = underway.stands; e_lt_entries = c.loop-e-test.true }

pub open_each-overflow_cast-longer : goal.open_each-overflow_cast-longer
open_each-overflow_cast-longer t c = omega (arith, entry_few (open_each_opening t (goal.at.open_each-overflow_cast-longer t c).Start) c.loop-e.e c.loop-e-test.true)

pub open_each-overflow_add-longer : goal.open_each-overflow_add-longer
open_each-overflow_add-longer t c = omega (arith, (open_each_opening t (goal.at.open_each-overflow_add-longer t c).Start).spare)

-- the trail with it
open_each_longer : (t : ℕ) → (c : open_each-In-loop-e t) → let a = c.args in let e = c.loop-e.e in
    Holds (record {
      path =
          set a.trail.path a.trail.entries e;
      entries = a.trail.entries + 1;
      pairing = a.trail.pairing;
      pairs = a.trail.pairs;
    }) (with_entry (reading_of
    a.trail) e) (a.trail.entries + 1) a.trail.pairs
open_each_longer t c =
    let a = c.args in
    let good = c.well_formed.1.1.0 in
    let spare = c.requires.place_value.1 in
    let room : a.trail.entries < length a.trail.path = search rules in
    longer_entry a.trail c.requires.underway.short spare room c.loop-e.e

pub open_each-pair-n-requires : goal.open_each-pair-n-requires
open_each-pair-n-requires t c =
    let o = open_each_opening t (goal.at.open_each-pair-n-requires t c).Start in
    let loop = c.loop-e in
    let next = c.enter-next in
    let holds = open_each_longer t (goal.at.open_each-pair-n-requires t c).In-loop-e in
    let less = open_less o loop.e holds next.result next.ensures.go (query_of c.args.basis.now) in
    let underway = open_underway o loop.e holds next.result next.ensures.go next.ensures.stands in
    let roomy : Roomy loop.out c.args.capacity = roomy_kept loop.invariant.1.1.0.0 c.requires.roomy.0 in
    (omega (arith, c.decreases, less), (underway, ((roomy, loop.invariant.1.1.0.1), (omega (arith, c.requires.in_bounds.0, loop.invariant.0.0), loop.invariant.0.1))))

pub open_each-returns-then-capacity-n : goal.open_each-returns-then-capacity-n
open_each-returns-then-capacity-n t c =
    let loop = c.loop-e in
    let next = c.enter-next in
    let passed = loop.invariant.1.1.1.0 in
    let turn = open_turn (open_each_opening t (goal.at.open_each-returns-then-capacity-n t c).Start) loop.e
    (open_each_longer t (goal.at.open_each-returns-then-capacity-n t c).In-loop-e) next.result next.ensures.go (query_of c.args.basis.now)
    (loop.invariant.1.0.1.1.1 c.loop-e-test.true) in
    record {
      rows = ⊎_elim
          (λ e. inl (turns_stop (put_keeps c.args.capacity) c.args.basis.now.h.entries (turns_more _ passed e refl) (omega (arith, c.loop-e-test.true)) c.if-capacity-n.true))
          (λ g. inr (gave_turn c.args.basis.now.h.entries passed c.loop-e-test.true g))
          (offered_same turn loop.invariant.0.0 c.pair-n.ensures.rows);
      table = c.pair-n.ensures.table;
    }

pub open_each-overflow_add-e : goal.open_each-overflow_add-e
open_each-overflow_add-e t c = omega (arith, entry_few (open_each_opening t (goal.at.open_each-overflow_add-e t c).Start) c.loop-e.e c.loop-e-test.true)

pub open_each-next_entry-following-requires : goal.open_each-next_entry-following-requires
open_each-next_entry-following-requires t c =
    let underway = (open_each_opening t (goal.at.open_each-next_entry-following-requires t c).Start).underway in
    let ways = c.loop-e.invariant.1.0 in
    record { accepted = underway.accepted; index_value = underway.indexed; known = ways.0.known; low_le_from = (omega (arith, ways.1.0), omega (arith, c.loop-e-test.true)) }

pub open_each-loop-e-smaller : goal.open_each-loop-e-smaller
open_each-loop-e-smaller t c =
    let next = (c.next_entry-following.ensures _ c.loop-e.invariant.1.0.0).next in
    omega (arith, next.onward, c.loop-e-test.true, next.in_bound, open_each_entries_are t (goal.at.open_each-loop-e-smaller t c).After-ways_on-opening)

pub open_each-loop-e-preserved : goal.open_each-loop-e-preserved
open_each-loop-e-preserved t c =
    let o = open_each_opening t (goal.at.open_each-loop-e-preserved t c).Start in
    let loop = c.loop-e in
    let letter = c.first_letter-letter in
    let next = c.next_entry-following.ensures _ loop.invariant.1.0.0 in
    let e = c.next_entry-following.result.entry in
    let known : List ℕ → Type 0 = Tabled c.args.basis.now.image.now (query_of c.args.basis.now) c.args.table.now in
    let passed : Turns (put c.args.capacity) (entry_one c.args.basis.now.image.now (query_of c.args.basis.now) c.args.place c.args.trail) (c.args.out.now, c.args.found)
    (c.if-known-at-ne1.out, c.if-known-at-ne1.n) (c.loop-e.e + 1) =
    elim c.if-known-at-ne1.branch [
      | open_each-then-known-at-ne1+else-capacity-n v ↦ let one = open_turn o loop.e
          (open_each_longer t (goal.at.open_each-loop-e-preserved t c).In-loop-e) v.enter-next.result v.enter-next.ensures.go (query_of c.args.basis.now)
          (loop.invariant.1.0.1.1.1 c.loop-e-test.true) in
          turns_is (turns_more _ loop.invariant.1.1.1.0 (offered_all (omega (arith, v.if-capacity-n.false)) v.pair-n.ensures.rows) one) v.out-is v.n-is
      | open_each-else-known-at-ne1 v ↦ turns_is
          (turns_skip loop.invariant.1.1.1.0
          ((open_each_looked t (goal.at.open_each-loop-e-preserved t c).Joined-known-at-eq0).barren letter.result.0 v.if-known-at-ne1.false loop.e (sym letter.ensures.0))) v.out-is v.n-is
    ] in (
      elim c.if-known-at-ne1.branch [
        | open_each-then-known-at-ne1+else-capacity-n v ↦ subst known (sym v.table-is) (v.pair-n.auto.table ∙ loop.invariant.0.0, v.pair-n.ensures.table)
        | open_each-else-known-at-ne1 v ↦ subst known (sym v.table-is) loop.invariant.0
      ],
      (
        (
          next.ways,
          (
            omega (arith, next.low_is),
            (
              omega (arith, next.next.in_bound, open_each_entries_are t (goal.at.open_each-loop-e-preserved t c).After-ways_on-opening),
              λ h. next.next.passes
                  (omega (arith, h, open_each_entries_are t (goal.at.open_each-loop-e-preserved t c).After-ways_on-opening)),
            ),
          ),
        ),
        (
          (
            elim c.if-known-at-ne1.branch [
              | open_each-then-known-at-ne1+else-capacity-n v ↦ ap length v.out-is ∙ v.pair-n.auto.out ∙ loop.invariant.1.1.0.0
              | open_each-else-known-at-ne1 v ↦ ap length v.out-is ∙ loop.invariant.1.1.0.0
            ],
            elim c.if-known-at-ne1.branch [
              | open_each-then-known-at-ne1+else-capacity-n v ↦ omega (arith, v.n-is, v.if-capacity-n.false)
              | open_each-else-known-at-ne1 v ↦ omega (arith, v.n-is, loop.invariant.1.1.0.1)
            ],
          ),
          (
            turns_far e passed next.next.onward (λ k i h. entry_none_lem o (query_of c.args.basis.now) k (next.next.passed k i h)),
            open_each_looked t
                (goal.at.open_each-loop-e-preserved t c).Joined-known-at-eq0,
          ),
        ),
      ),
    )

pub open_each-returns : goal.open_each-returns
open_each-returns t c =
    record { rows = inl (turns_all c.args.basis.now.h.entries c.loop-e.invariant.1.1.1.0 (omega (arith, c.loop-e-test.false, c.loop-e.invariant.1.0.1.1.0))); table = c.loop-e.invariant.0.1 }

-- `open_listed`: At the loop's head an `Opening` is known, and the list; each turn offers what its entry finds.

-- its entry
abbrev open_listed_number : (t : ℕ) → open_listed-In-loop-e t → ℕ
open_listed_number t c = get_or c.args.list.now c.loop-e.e-index 0

open_listed_opening : (t : ℕ) → (s : open_listed-Start t) → let a = s.args in Opening a.basis.now.image.now a.basis.now.index.now (header_of a.basis.now.h) a.place a.trail
open_listed_opening t s = record { underway = s.requires.underway; open_here = s.requires.place_value.0; spare = s.requires.place_value.1 }

-- it may open
open_listed_may : (t : ℕ) → (c : open_listed-In-loop-e t) → let a =
    c.args in (open_listed_number t c < a.basis.now.h.entries)
    × (may_enter a.basis.now.image.now (query_of c.args.basis.now).entries a.place.last a.trail.entries (open_listed_number t c) ≡ true)
open_listed_may t c =
    let m = c.requires.listed.may c.loop-e.e-index c.loop-e-test.true in
    (omega (arith, m.0, ap (λ (g : Header). g.entries) c.requires.underway.accepted.laid.header_is), m.1)

-- what all entries find is what those of the list do
open_listed_all_are : (t : ℕ) → (s : open_listed-Start t) → let a = s.args in
    flat_map (λ i. entry_one a.basis.now.image.now (query_of s.args.basis.now) a.place a.trail (get_or a.list.now i 0)) (below (length a.list.now))
    ≡ flat_map (entry_one a.basis.now.image.now (query_of s.args.basis.now) a.place a.trail) (below a.basis.now.h.entries)
open_listed_all_are t s =
    let a = s.args in
    let f = entry_one a.basis.now.image.now (query_of s.args.basis.now) a.place a.trail in
    sym s.requires.listed.all ∙ ap (λ (h : Header). flat_map f (below h.entries)) (sym s.requires.underway.accepted.laid.header_is)

open_listed_whole : (t : ℕ) → (s : open_listed-Start t) {state : List ℕ × ℕ} → let a = s.args in
    state
    ≡ offer_all (put a.capacity) (a.out.now, a.found)
    (flat_map (λ i. entry_one a.basis.now.image.now (query_of s.args.basis.now) a.place a.trail (get_or a.list.now i 0)) (below (length a.list.now)))
    → state ≡ offer_all (put a.capacity) (a.out.now, a.found) (flat_map (entry_one a.basis.now.image.now (query_of s.args.basis.now) a.place a.trail) (below a.basis.now.h.entries))
open_listed_whole t s e = let a = s.args in e ∙ ap (offer_all (put a.capacity) (a.out.now, a.found)) (open_listed_all_are t s)

pub open_listed-loop-e-init : goal.open_listed-loop-e-init
open_listed-loop-e-init t c = ((refl, c.requires.in_bounds.1), ((refl, c.requires.roomy.1), turns_none))

pub open_listed-enter-next-requires : goal.open_listed-enter-next-requires
open_listed-enter-next-requires t c =
    let underway = c.requires.underway in
    let inside = (open_listed_may t (goal.at.open_listed-enter-next-requires t c).In-loop-e).0 in
    record { accepted = underway.accepted; standing = underway.stands; e_lt_entries = omega (arith, inside, c.from.ensures) }

pub open_listed-overflow_add-longer : goal.open_listed-overflow_add-longer
open_listed-overflow_add-longer t c = omega (arith, (open_listed_opening t (goal.at.open_listed-overflow_add-longer t c).Start).spare)

-- the trail with it
open_listed_longer : (t : ℕ) → (c : open_listed-In-loop-e t) → let a = c.args in let e = open_listed_number t c in
    Holds (record { path = set a.trail.path a.trail.entries e; entries = a.trail.entries + 1; pairing = a.trail.pairing; pairs = a.trail.pairs }) (with_entry (reading_of a.trail) e)
    (a.trail.entries + 1) a.trail.pairs
open_listed_longer t c =
    let a = c.args in
    let good = c.well_formed.1.1.0 in
    let spare = c.requires.place_value.1 in
    let room : a.trail.entries < length a.trail.path = search rules in
    longer_entry a.trail c.requires.underway.short spare room (open_listed_number t c)

pub open_listed-pair-n-requires : goal.open_listed-pair-n-requires
open_listed-pair-n-requires t c =
    let o = open_listed_opening t (goal.at.open_listed-pair-n-requires t c).Start in
    let loop = c.loop-e in
    let next = c.enter-next in
    let go = rw c.from.ensures at next.ensures.go in
    let holds = open_listed_longer t (goal.at.open_listed-pair-n-requires t c).In-loop-e in
    let less = open_less o (open_listed_number t (goal.at.open_listed-pair-n-requires t c).In-loop-e) holds next.result go
    (query_of c.args.basis.now) in
    let underway = open_underway o (open_listed_number t (goal.at.open_listed-pair-n-requires t c).In-loop-e) holds next.result go next.ensures.stands in
    let roomy : Roomy loop.out c.args.capacity = roomy_kept loop.invariant.1.0.0 c.requires.roomy.0 in
    (omega (arith, c.decreases, less), (underway, ((roomy, loop.invariant.1.0.1), (omega (arith, c.requires.in_bounds.0, loop.invariant.0.0), loop.invariant.0.1))))

-- what the turn's entry finds
open_listed_turned : (t : ℕ) → (c : open_listed-In-loop-e t) → let a = c.args in let e = open_listed_number t c in let q = query_of a.basis.now in
    (next : Place) → ((q : Query) (n p : ℕ) → node_of a.basis.now.image.now next (suc n) p ≡ go_at (grammar_of a.basis.now.image.now) q true (node_of a.basis.now.image.now a.place n p) (suc e))
    → found_at a.basis.now.image.now q next (record { path = set a.trail.path a.trail.entries e; entries = a.trail.entries + 1; pairing = a.trail.pairing; pairs = a.trail.pairs })
    ≡ entry_one a.basis.now.image.now q a.place a.trail (open_listed_number t c)
open_listed_turned t c next go =
    let a = c.args in
    let e = open_listed_number t c in
    let q = query_of a.basis.now in
    let b = a.basis.now in
    let o : Opening b.image.now b.index.now (header_of b.h) a.place a.trail = record { underway = c.requires.underway; open_here = c.requires.place_value.0; spare = c.requires.place_value.1 } in
    open_turn o e (open_listed_longer t c) next go q (open_listed_may t c).1

pub open_listed-returns-then-capacity-n : goal.open_listed-returns-then-capacity-n
open_listed-returns-then-capacity-n t c =
    let start = (goal.at.open_listed-returns-then-capacity-n t c).Start in
    let passed = c.loop-e.invariant.1.1 in
    let turned = open_listed_turned t (goal.at.open_listed-returns-then-capacity-n t c).In-loop-e c.enter-next.result (rw c.from.ensures at c.enter-next.ensures.go) in
    record {
      rows = ⊎_elim
          (λ e. inl (open_listed_whole t start (turns_stop (put_keeps c.args.capacity) (length c.args.list.now) (turns_more _ passed e refl) (omega (arith, c.loop-e-test.true)) c.if-capacity-n.true)))
          (λ g. inr (gave_same (open_listed_all_are t start) (gave_turn (length c.args.list.now) passed c.loop-e-test.true g)))
          (offered_same turned c.loop-e.invariant.0.0 c.pair-n.ensures.rows);
      table = c.pair-n.ensures.table;
    }

pub open_listed-loop-e-preserved : goal.open_listed-loop-e-preserved
open_listed-loop-e-preserved t c =
    let loop = c.loop-e in
    let turned = open_listed_turned t (goal.at.open_listed-loop-e-preserved t c).In-loop-e c.enter-next.result (rw c.from.ensures at c.enter-next.ensures.go) in
    let done = offered_same turned loop.invariant.0.0 c.pair-n.ensures.rows in (
      (c.pair-n.auto.table ∙ loop.invariant.0.0, c.pair-n.ensures.table),
      (
        (c.pair-n.auto.out ∙ loop.invariant.1.0.0, c.if-capacity-n.false),
        turns_more _ loop.invariant.1.1 (offered_all (omega (arith, c.if-capacity-n.false)) done) refl,
      ),
    )

pub open_listed-returns : goal.open_listed-returns
open_listed-returns t c =
    let loop = c.loop-e in
    let all = turns_all (length c.args.list.now) loop.invariant.1.1 (omega (arith, c.loop-e-test.false)) in
    record { rows = inl (open_listed_whole t (goal.at.open_listed-returns t c).Start all); table = loop.invariant.0.1 }

-- `pair`: What is found where the forced pairs lead is what was to be found: nothing, where that is known to be a dead end; and where nothing is found there, it is one.

-- what is asked of the path
abbrev pair_path : (t : ℕ) → pair-Start t → Pattern
pair_path t s = path_pattern s.args.basis.now.asked.path s.args.basis.now.path.now

abbrev pair_query : (t : ℕ) → pair-Start t → Query
pair_query t s = query_of s.args.basis.now

-- nothing is found, and nothing offered
pair_nothing : (t : ℕ) → (s : pair-Start t) → let a =
    s.args in found_at a.basis.now.image.now (query_of s.args.basis.now) a.place a.trail ≡ []
    → Offered a.capacity (a.out.now, a.found) (found_at a.basis.now.image.now (query_of s.args.basis.now) a.place a.trail) (a.out.now, a.found) (length a.table.now)
pair_nothing t s none = let a = s.args in inl (sym (ap (offer_all (put a.capacity) (a.out.now, a.found)) none ∙ offer_none _ _))

pub pair-count-requires : goal.pair-count-requires
pair-count-requires t c = c.requires.in_bounds.0

-- the search is given up
pub pair-overflow_add-result : goal.pair-overflow_add-result
pair-overflow_add-result t c = record { fits = omega (arith, c.requires.roomy.0, c.well_formed.1.1.1.0.0) }

pub pair-returns-then-not-count : goal.pair-returns-then-not-count
pair-returns-then-not-count t c =
    let counted = c.count in
    record { rows = inr (gave_none _ (counted.ensures.few c.if-not-count.true)); table = counted.ensures.kept _ _ c.requires.in_bounds.1 }

-- it goes on
pub pair-lead-requires : goal.pair-lead-requires
pair-lead-requires t c = c.requires.underway

pub pair-returns-in_default : goal.pair-returns-in_default
pair-returns-in_default t c =
    let start = (goal.at.pair-returns-in_default t c).Start in
    let none = rw c.in_default.is at (c.lead.ensures (pair_path t start)) in
    record { rows = pair_nothing t start none; table = c.count.ensures.kept _ _ c.requires.in_bounds.1 }

-- a dead end
pub pair-is_dead-requires : goal.pair-is_dead-requires
pair-is_dead-requires t c =
    let there = (c.in-Some.ensures (pair_path t (goal.at.pair-is_dead-requires t c).Start)).underway in
    record { accepted = there.accepted; standing = there.stands; pairs_bound = there.short.pairs_most }

pub pair-returns-then-is_dead : goal.pair-returns-then-is_dead
pair-returns-then-is_dead t c =
    let start = (goal.at.pair-returns-then-is_dead t c).Start in
    let some = c.in-Some in
    let known = c.count.ensures.kept _ _ c.requires.in_bounds.1 in
    let dead = c.is_dead.ensures (query_of c.args.basis.now) known c.if-is_dead.true some.led.trail refl refl in
    record { rows = pair_nothing t start (sym (some.ensures (pair_path t start)).goes ∙ dead); table = known }

pub pair-pair_each-n-requires : goal.pair-pair_each-n-requires
pair-pair_each-n-requires t c =
    let led = c.in-Some.ensures (pair_path t (goal.at.pair-pair_each-n-requires t c).Start) in
    let counted = c.count in
    let known = c.requires.in_bounds in
    (omega (arith, c.decreases, led.no_more), (led.underway, (c.requires.roomy, (omega (arith, known.0, counted.auto.table), counted.ensures.kept _ _ known.1))))

-- what was to be found has been offered
pair_found_there : (t : ℕ) → (made : pair-After-pair_each-n t) → let a = made.args in
    Offered a.capacity (a.out.now, a.found) (found_at a.basis.now.image.now (query_of made.args.basis.now) a.place a.trail) (made.pair_each-n.new.out, made.pair_each-n.result)
    (length a.table.now)
pair_found_there t made =
    let a = made.args in
    offered_same (made.in-Some.ensures (path_pattern a.basis.now.asked.path a.basis.now.path.now)).goes made.count.auto.table made.pair_each-n.ensures.rows

-- nothing was found
pub pair-remember-requires : goal.pair-remember-requires
pair-remember-requires t c =
    let there = (c.in-Some.ensures (pair_path t (goal.at.pair-remember-requires t c).Start)).underway in
    record { accepted = there.accepted; standing = there.stands; pairs_bound = there.short.pairs_most }

pub pair-returns-then-n-found : goal.pair-returns-then-n-found
pair-returns-then-n-found t c =
    let a = c.args in
    let led = c.in-Some.led in
    let none = offered_none c.requires.roomy.1 c.if-n-found.true c.pair_each-n.ensures.rows in
    record {
      rows = pair_found_there t (goal.at.pair-returns-then-n-found t c).After-pair_each-n;
      table = c.remember.ensures
          (query_of c.args.basis.now) c.pair_each-n.ensures.table (dead_again a.basis.now.image.now (query_of c.args.basis.now) led.place led.trail none);
    }

pub pair-returns-else-n-found : goal.pair-returns-else-n-found
pair-returns-else-n-found t c = record { rows = pair_found_there t (goal.at.pair-returns-else-n-found t c).After-pair_each-n; table = c.pair_each-n.ensures.table }

-- `pair_each`: Where no entry opens the place is `Settled`: a letter is left, or the path has ended. At the loop's head a `Pairing` of it is known;
-- each turn tries a candidate of the next letter, and offers what it finds where it is taken.

abbrev pair_each_query : (t : ℕ) → pair_each-Start t → Query
pair_each_query t s = query_of s.args.basis.now

-- where the search stands, with the path ended where it ends here
abbrev pair_each_here : (t : ℕ) → Plain-pair_each-Joined-place t → Place
pair_each_here t w = with_last w.args.place w.if-place.last

abbrev pair_each_letter : (t : ℕ) → Plain-pair_each-After-candidate_count-many t → ℕ
pair_each_letter t w = w.next_letter-letter.result.0

-- an entry may open
pub pair_each-goes_on-requires : goal.pair_each-goes_on-requires
pair_each-goes_on-requires t c = let underway = c.requires.underway in record { accepted = underway.accepted; standing = (underway.stands, c.if-place.true) }

pub pair_each-open-requires : goal.pair_each-open-requires
pair_each-open-requires t c =
    (omega (arith, c.decreases), (c.requires.underway, (c.goes_on.ensures.on c.if-goes_on.true, (c.requires.roomy, c.requires.in_bounds))))

pub pair_each-returns-then-goes_on : goal.pair_each-returns-then-goes_on
pair_each-returns-then-goes_on t c = record { rows = c.«open».ensures.rows; table = c.«open».ensures.table }

-- none opens
pub pair_each-put_ended-n-requires : goal.pair_each-put_ended-n-requires
pair_each-put_ended-n-requires t c =
    record { underway = c.requires.underway; to_le_from = c.if-place.true; roomy = omega (arith, c.requires.roomy) }

pub pair_each-returns-then-capacity-n : goal.pair_each-returns-then-capacity-n
pair_each-returns-then-capacity-n t c =
    let a = c.args in
    let over = settled_over c.requires.underway (query_of c.args.basis.now) c.if-place.true (c.goes_on.ensures.over c.if-goes_on.false) in record {
      rows = inl
          (end_fills over.underway (query_of c.args.basis.now) (put a.capacity) (a.out.now, a.found) (put_keeps a.capacity) c.if-capacity-n.true over.shut
          c.put_ended-n.ensures
          ∙ ap (offer_all (put a.capacity) (a.out.now, a.found)) (over.same (query_of c.args.basis.now)));
      table = c.requires.in_bounds.1;
    }

pair_each_settled : (t : ℕ) → (w : Plain-pair_each-Joined-place t) → let a = w.args in Settled a.basis.now.image.now a.basis.now.index.now (header_of a.basis.now.h) a.place a.trail w.if-place.last
pair_each_settled t w =
    let a = w.args in
    let at : ℕ → Type 0 = Settled a.basis.now.image.now a.basis.now.index.now (header_of a.basis.now.h) a.place a.trail in
    elim w.if-place.branch [
      | pair_each-then-place+else-goes_on+else-capacity-n v ↦ subst at (sym v.last-is)
          (settled_over w.requires.underway (query_of w.args.basis.now) v.if-place.true (v.goes_on.ensures.over v.if-goes_on.false))
      | pair_each-else-place v ↦ subst at (sym v.last-is) (settled_left w.requires.underway v.if-place.false)
    ]

-- what is complete here has been offered
pair_each_ending : (t : ℕ) → (w : Plain-pair_each-Joined-place t)
    → (w.if-place.out, w.if-place.n)
    ≡ offer_all (put w.args.capacity) (w.args.out.now, w.args.found)
    (given (complete (grammar_of w.args.basis.now.image.now) (query_of w.args.basis.now) (node_at w.args.basis.now.image.now (pair_each_here t w) w.args.trail))
    (reading_of w.args.trail ∷ []))
pair_each_ending t w =
    let a = w.args in
    let g = grammar_of a.basis.now.image.now in
    let offered : Bool → List ℕ × ℕ = λ b. offer_all (put a.capacity) (a.out.now, a.found) (given b (reading_of a.trail ∷ [])) in
    let done : ℕ → Bool = λ last. complete g (query_of w.args.basis.now) (node_at a.basis.now.image.now (with_last a.place last) a.trail) in
    elim w.if-place.branch [
      | pair_each-then-place+else-goes_on+else-capacity-n v ↦ state_is (v.put_ended-n.ensures ∙ ap (λ (last : ℕ). offered (done last)) (sym v.last-is)) v.out-is v.n-is
      | pair_each-else-place v ↦ let none = not_ended a.basis.now.image.now a.place w.requires.underway.stands
          (query_of w.args.basis.now) a.trail.entries a.trail.pairs v.if-place.false in
          state_is (sym (ap (λ (last : ℕ). offered (done last)) v.last-is ∙ ap offered none ∙ offer_none _ _)) v.out-is v.n-is
    ]

pair_each_kept : (t : ℕ) → (w : pair_each-Joined-place t) → length w.if-place.out ≡ length w.args.out.now
pair_each_kept t w = elim w.if-place.branch [
  | pair_each-then-place+else-goes_on+else-capacity-n v ↦ ap length v.out-is ∙ v.put_ended-n.auto.out
  | pair_each-else-place v ↦ ap length v.out-is
]

pair_each_room : (t : ℕ) → (w : pair_each-Joined-place t) → w.if-place.n ≤ w.args.capacity
pair_each_room t w = elim w.if-place.branch [
  | pair_each-then-place+else-goes_on+else-capacity-n v ↦ omega (arith, v.n-is, v.if-capacity-n.false)
  | pair_each-else-place v ↦ omega (arith, v.n-is, w.requires.roomy.1)
]

pair_each_pairing : (t : ℕ) → (w : Plain-pair_each-After-candidate_count-many t) → let a =
    w.args in Pairing a.basis.now.image.now a.basis.now.index.now (header_of a.basis.now.h) (pair_each_here t (pair_each_place t w)) a.trail (pair_each_letter t w)
pair_each_pairing t w =
    let at = pair_each_settled t (pair_each_place t w) in
    record {
      underway = at.underway;
      shut = at.shut;
      spare = w.if-trail-ge40.false;
      letter = w.next_letter-letter.ensures.0;
      in_letters = letter_in at.underway w.next_letter-letter.ensures.1;
    }

pub pair_each-returns-then-trail-ge40 : goal.pair_each-returns-then-trail-ge40
pair_each-returns-then-trail-ge40 t c =
    record {
      rows = inl (pair_each_ending t (goal.at.pair_each-returns-then-trail-ge40 t c).Joined-place.before ∙ ap (offer_all (put c.args.capacity) (c.args.out.now, c.args.found))
          (sym (pair_last (pair_each_settled t (goal.at.pair_each-returns-then-trail-ge40 t c).Joined-place.before).underway (query_of c.args.basis.now)
          (pair_each_settled t (goal.at.pair_each-returns-then-trail-ge40 t c).Joined-place.before).shut c.if-trail-ge40.true) ∙ (pair_each_settled t
          (goal.at.pair_each-returns-then-trail-ge40 t c).Joined-place.before).same (query_of c.args.basis.now)));
      table = c.requires.in_bounds.1;
    }

pub pair_each-next_letter-letter-requires : goal.pair_each-next_letter-letter-requires
pair_each-next_letter-letter-requires t c = c.requires.underway.stands

pub pair_each-candidate_count-many-requires : goal.pair_each-candidate_count-many-requires
pair_each-candidate_count-many-requires t c =
    let underway = c.requires.underway in record { accepted = underway.accepted; index_value = underway.indexed; a_le_letters = letter_in underway c.next_letter-letter.ensures.1 }

pub pair_each-loop-k-init : goal.pair_each-loop-k-init
pair_each-loop-k-init t c = ((refl, c.requires.in_bounds.1), ((refl, pair_each_room t (goal.at.pair_each-loop-k-init t c).Joined-place), turns_none))

-- what the candidates offer comes after it
pair_each_whole : (t : ℕ) → (w : pair_each-After-candidate_count-many t) {state : List ℕ × ℕ} {places : ℕ} →
    Offered w.args.capacity (w.if-place.out, w.if-place.n)
    (flat_map (candidate_one w.args.basis.now.image.now (query_of w.args.basis.now) (pair_each_here t (pair_each_place t w.before)) w.args.trail
    (pair_each_letter t w.before)) (below (length (candidates w.args.basis.now.image.now (pair_each_letter t w.before))))) state places
    → Offered w.args.capacity (w.args.out.now, w.args.found) (found_at w.args.basis.now.image.now (query_of w.args.basis.now) w.args.place w.args.trail) state places
pair_each_whole t w o =
    let same = (pair_each_settled t (pair_each_place t w.before)).same (query_of w.args.basis.now) in
    ⊎_elim
    (λ e. inl (pair_offered (pair_each_pairing t w.before) (query_of w.args.basis.now) (put w.args.capacity) (w.args.out.now, w.args.found)
    (pair_each_ending t (pair_each_place t w.before)) e ∙ ap (offer_all (put w.args.capacity) (w.args.out.now, w.args.found)) same))
    (λ g. inr (gave_same (sym (pair_found (pair_each_pairing t w.before) (query_of w.args.basis.now)) ∙ same)
    (gave_next _ (pair_each_ending t (pair_each_place t w.before)) g)))
    o

-- the candidate of a turn
pair_each_inside : (t : ℕ) → (c : pair_each-In-loop-k t) → c.loop-k.k < length (candidates c.args.basis.now.image.now (pair_each_letter t c.before.before))
pair_each_inside t c = omega (arith, c.loop-k-test.true, c.candidate_count-many.ensures)

pub pair_each-candidate-p-requires : goal.pair_each-candidate-p-requires
pair_each-candidate-p-requires t c =
    let o = pair_each_pairing t (goal.at.pair_each-candidate-p-requires t c).After-candidate_count-many.before in
    record { accepted = o.underway.accepted; index_value = o.underway.indexed; a_le_letters = (o.in_letters, pair_each_inside t (goal.at.pair_each-candidate-p-requires t c).In-loop-k) }

pair_each_chosen : (t : ℕ) → (c : pair_each-After-candidate-p t) → Candidate c.args.basis.now.image.now (pair_each_letter t (pair_each_turn t c).before.before) c.loop-k.k c.candidate-p.result
pair_each_chosen t c = record { inside = pair_each_inside t (pair_each_turn t c); this = c.candidate-p.ensures.0 }

pub pair_each-take-taken-requires : goal.pair_each-take-taken-requires
pair_each-take-taken-requires t c =
    let a = c.args in
    let o = pair_each_pairing t (goal.at.pair_each-take-taken-requires t c).After-candidate_count-many.before in
    record {
      accepted = o.underway.accepted;
      index_value = o.underway.indexed;
      standing = o.underway.stands;
      p_lt_pairs = c.candidate-p.ensures.1;
      t = candidate_spells
          (rest_of a.basis.now.image.now a.place) o.letter (pair_each_chosen t (goal.at.pair_each-take-taken-requires t c).After-candidate-p);
    }

-- what is asked of the path beside
abbrev pair_each_path : (t : ℕ) → pair_each-After-take-taken t → Pattern
pair_each_path t c = let a = c.args in path_pattern a.basis.now.asked.path a.basis.now.path.now

-- it may be taken
pub pair_each-overflow_cast-longer : goal.pair_each-overflow_cast-longer
pair_each-overflow_cast-longer t c =
    omega (arith, c.candidate-p.ensures.1, (pair_each_pairing t (goal.at.pair_each-overflow_cast-longer t c).After-candidate_count-many.before).underway.accepted.laid.limits.pairs_most)

pub pair_each-overflow_add-longer : goal.pair_each-overflow_add-longer
pair_each-overflow_add-longer t c = omega (arith, (pair_each_pairing t (goal.at.pair_each-overflow_add-longer t c).After-candidate_count-many.before).spare)

-- the trail with it
pair_each_longer : (t : ℕ) → (c : pair_each-After-candidate-p t) → let a = c.args in let p = c.candidate-p.result in
    Holds (record { path = a.trail.path; entries = a.trail.entries; pairing = set a.trail.pairing a.trail.pairs p; pairs = a.trail.pairs + 1 }) (with_pair (reading_of a.trail) p) a.trail.entries
    (a.trail.pairs + 1)
pair_each_longer t c =
    let a = c.args in
    let good = c.well_formed.1.1.0 in
    let spare = (pair_each_pairing t (pair_each_turn t c).before.before).spare in
    let room : a.trail.pairs < length a.trail.pairing = search rules in
    longer_pair a.trail (pair_each_pairing t (pair_each_turn t c).before.before).underway.short spare room c.candidate-p.result

pub pair_each-pair-n-requires : goal.pair_each-pair-n-requires
pair_each-pair-n-requires t c =
    let o = pair_each_pairing t (goal.at.pair_each-pair-n-requires t c).After-candidate_count-many.before in
    let loop = c.loop-k in
    let took = c.in-Some.ensures (pair_each_path t (goal.at.pair_each-pair-n-requires t c).After-take-taken) in
    let holds = pair_each_longer t (goal.at.pair_each-pair-n-requires t c).After-candidate-p in
    let less = pair_less o (pair_each_chosen t (goal.at.pair_each-pair-n-requires t c).After-candidate-p) took holds in
    let underway = pair_underway o (pair_each_chosen t (goal.at.pair_each-pair-n-requires t c).After-candidate-p) took holds in
    let roomy : Roomy loop.out c.args.capacity = roomy_kept (loop.invariant.1.0.0 ∙ pair_each_kept t (goal.at.pair_each-pair-n-requires t c).Joined-place) c.requires.roomy.0 in (
      omega (arith, c.decreases, less, (pair_each_settled t (goal.at.pair_each-pair-n-requires t c).Joined-place.before).no_more),
      (underway, ((roomy, loop.invariant.1.0.1), (omega (arith, c.requires.in_bounds.0, loop.invariant.0.0), loop.invariant.0.1))),
    )

pub pair_each-returns-then-capacity-n-2 : goal.pair_each-returns-then-capacity-n-2
pair_each-returns-then-capacity-n-2 t c =
    let loop = c.loop-k in
    let many = length (candidates c.args.basis.now.image.now (pair_each_letter t (goal.at.pair_each-returns-then-capacity-n-2 t c).After-candidate_count-many.before)) in
    let passed = loop.invariant.1.1 in
    let turn = pair_turn (pair_each_pairing t (goal.at.pair_each-returns-then-capacity-n-2 t c).After-candidate_count-many.before)
    (pair_each_chosen t (goal.at.pair_each-returns-then-capacity-n-2 t c).After-candidate-p)
    (c.in-Some.ensures (pair_each_path t (goal.at.pair_each-returns-then-capacity-n-2 t c).After-take-taken))
    (pair_each_longer t (goal.at.pair_each-returns-then-capacity-n-2 t c).After-candidate-p) in
    record {
      rows = pair_each_whole t (goal.at.pair_each-returns-then-capacity-n-2 t c).After-candidate_count-many
          (⊎_elim
          (λ e. inl (turns_stop (put_keeps c.args.capacity) many (turns_more _ passed e refl)
          (omega (arith, pair_each_inside t (goal.at.pair_each-returns-then-capacity-n-2 t c).In-loop-k)) c.if-capacity-n-2.true))
          (λ g. inr (gave_turn many passed (pair_each_inside t (goal.at.pair_each-returns-then-capacity-n-2 t c).In-loop-k) g))
          (offered_same turn loop.invariant.0.0 c.pair-n.ensures.rows));
      table = c.pair-n.ensures.table;
    }

-- after a turn: the candidate that was taken has offered what it finds, or finds nothing
pub pair_each-loop-k-preserved : goal.pair_each-loop-k-preserved
pair_each-loop-k-preserved t c =
    let at = goal.at.pair_each-loop-k-preserved t c in
    let q = query_of c.args.basis.now in
    let o = pair_each_pairing t at.After-candidate_count-many.before in
    let path = pair_each_path t at.After-take-taken in
    let chosen = pair_each_chosen t at.After-candidate-p in
    let longer = pair_each_longer t at.After-candidate-p in
    let known : List ℕ → Type 0 = Tabled c.args.basis.now.image.now q c.args.table.now in
    let loop = c.loop-k in (
      elim c.match-taken.branch [
        | pair_each-in-Some+else-capacity-n-2 v ↦ subst known (sym v.table-is) (v.pair-n.auto.table ∙ loop.invariant.0.0, v.pair-n.ensures.table)
        | pair_each-in_default v ↦ subst known (sym v.table-is) loop.invariant.0
      ],
      (
        (
          elim c.match-taken.branch [
            | pair_each-in-Some+else-capacity-n-2 v ↦ ap length v.out-is ∙ v.pair-n.auto.out ∙ loop.invariant.1.0.0
            | pair_each-in_default v ↦ ap length v.out-is ∙ loop.invariant.1.0.0
          ],
          elim c.match-taken.branch [
            | pair_each-in-Some+else-capacity-n-2 v ↦ omega (arith, v.n-is, v.if-capacity-n-2.false)
            | pair_each-in_default v ↦ omega (arith, v.n-is, loop.invariant.1.0.1)
          ],
        ),
        elim c.match-taken.branch [
          | pair_each-in-Some+else-capacity-n-2 v ↦ let turn = pair_turn o chosen (v.in-Some.ensures path) longer in
              turns_is (turns_more _ loop.invariant.1.1 (offered_all (omega (arith, v.if-capacity-n-2.false)) v.pair-n.ensures.rows) turn) v.out-is v.n-is
          | pair_each-in_default v ↦ let shut = rw v.in_default.is at (c.take-taken.ensures path) in turns_is (turns_skip loop.invariant.1.1 (pair_none o chosen q shut)) v.out-is v.n-is
        ],
      ),
    )

pub pair_each-returns : goal.pair_each-returns
pair_each-returns t c =
    let loop = c.loop-k in
    record {
      rows = pair_each_whole t (goal.at.pair_each-returns t c).After-candidate_count-many
          (inl (turns_all (length (candidates c.args.basis.now.image.now (pair_each_letter t (goal.at.pair_each-returns t c).After-candidate_count-many.before))) loop.invariant.1.1
          (omega (arith, c.loop-k-test.false, c.candidate_count-many.ensures))));
      table = loop.invariant.0.1;
    }
