-- What is known at the heads of the search's two loops, and what each turn takes from it.
use Prim.Native.Nat.{ℕ, suc, ◌+◌, ◌<◌, ◌≤◌}
use native.Mathlib.Numerals.{add-one}
use native.Mathlib.Omega.{arith}
use mathlib.Core.Bool.{Bool, true, false, not}
use mathlib.Core.Logic.{◌⊎◌, inl, inr, ⊎_elim}
use mathlib.Core.Path.{◌≡◌, refl, sym, ap, ap₂, ◌∙◌}
use mathlib.Core.List.{List, [], ◌∷◌, ◌++◌}
use lib.ListN.{length, get_or}
use lib.Dec.{leb, ltb, eqb, ltb→lt}
use borrow.Author.Tests.{eqb-false, lt-leb, le-leb, ne_eqb}
use Rattle.model.specs.Lists.{below, given, flat_map}
use Rattle.model.specs.Blocks.{Header, header}
use Rattle.model.specs.GrammarOf.{grammar_of}
use Rattle.model.specs.Readings.{Reading}
use Rattle.model.specs.Query.{Query}
use Rattle.model.specs.Tree.{Node, opens, go_at, complete}
use Rattle.image.specs.Index.{candidates}
use Rattle.rows.specs.declared.Trail.{Trail}
use Rattle.rows.specs.Trail.{reading_of, with_entry, with_pair, Holds}
use Rattle.rows.specs.Offering.{offer_all, Keeps}
use Rattle.rows.proofs.Offering.{offer_append, offer_full}
use Rattle.listing.specs.declared.place.Place.{Place}
use Rattle.listing.specs.Gather.{steps_left}
use Rattle.listing.specs.Places.{root, ended, stops_after, rest_of, with_last, node_of, Standing, Shut, Took, OnlyStops}
use Rattle.listing.specs.Opening.{may_enter}
use Rattle.listing.specs.Search.{node_at, head_of, found_at, entry_one}
use Rattle.listing.proofs.Loops.{flat_map_places}
use Rattle.listing.proofs.Places.{stopped_node, stopped_stands}
use Rattle.listing.proofs.Searching.{stop_one, pair_one}
use Rattle.model.proofs.Booleans.{and_out, not_out, of_true, right_false}
use Rattle.listing.proofs.Searching as found
use Rattle.ahead.specs.Here.{steps_after, opens_at, Underway}
use Rattle.ahead.proofs.Standing.{opens_is}
use Rattle.ahead.proofs.Candidates.{Candidate}

-- what candidate k of letter a finds
abbrev pub candidate_one : List ℕ → Query → Place → Trail → ℕ → ℕ → List Reading
candidate_one image q place trail a k = pair_one image q place trail (get_or (candidates image a) k 0)

-- where the search stands, with a trail behind it
module _ {image index : List ℕ} {h : Header} {place : Place} {trail : Trail} (underway : Underway image index h place trail) where
  same_header : header image ≡ h
  same_header = sym underway.accepted.laid.header_is

  opens_here : opens (node_at image place trail) ≡ opens_at place
  opens_here = opens_is image place underway.stands trail.entries trail.pairs

  goes_on : opens_at place ≡ true → eqb place.last ended ≡ false
  unfolding opens_at
  goes_on o = not_out (eqb place.last ended) (and_out (leb place.to place.from) (not (eqb place.last ended)) (of_true (opens_at place) o)).1

  -- an entry is open, or none is yet
  pub last_in : opens_at place ≡ true → (place.last ≡ root) ⊎ (place.last < h.entries)
  last_in o =
      ⊎_elim inl
      (λ r. ⊎_elim (λ e. absurd (eqb-false place.last ended (goes_on o) e)) (λ l. inr (omega (arith, l, ap (λ (g : Header). g.entries) same_header))) r)
      underway.stands.last_right

  pub letter_in : {a : ℕ} → a ≤ (header image).letters → a ≤ h.letters
  letter_in m = omega (arith, m, ap (λ (g : Header). g.letters) same_header)

  -- the path ends here
  module _ (o : opens_at place ≡ true) (next : Place)
      (go : (image : List ℕ) (q : Query) (n p : ℕ) → node_of image next n p ≡ go_at (grammar_of image) q true (node_of image place n p) 0) where
    pub stop_underway : ((image : List ℕ) → Standing image place → Standing image next) → Underway image index h next trail
    stop_underway s = record { accepted = underway.accepted; indexed = underway.indexed; stands = s image underway.stands; short = underway.short }

    stopped : (q : Query) → eqb next.last ended ≡ true
    unfolding node_of go_at
    stopped q = ap (λ (n : Node). n.ended) (go image q 0 0)

    pub stop_less : (q : Query) → steps_after place trail ≡ suc (steps_after next trail)
    stop_less q = rw (goes_on o, stopped q) refl

    pub only_turn : (q : Query) → OnlyStops image place.last → found_at image q next trail ≡ found_at image q place trail
    only_turn q only = found.only_stop image q place trail (opens_here ∙ o) only next (go image q trail.entries trail.pairs)

    pub stop_turn : (q : Query) → stops_after image place.last ≡ true → found_at image q next trail ≡ stop_one image q place trail
    stop_turn q t = found.stop_one_lem image q place trail (opens_here ∙ o) t next (go image q trail.entries trail.pairs)

  -- what the ending finds, and then what the entries find
  pub open_parts : (q : Query) → opens_at place ≡ true → found_at image q place trail ≡ stop_one image q place trail ++ flat_map (entry_one image q place trail) (below h.entries)
  open_parts q o =
      found.open_all image q place trail (opens_here ∙ o) ∙ ap (λ (g : Header). stop_one image q place trail ++ flat_map (entry_one image q place trail) (below g.entries)) same_header

  -- with no entry to spare, only what ends; with no pair to spare, only what is complete
  pub open_last : (q : Query) → opens_at place ≡ true → 16 ≤ trail.entries → found_at image q place trail ≡ stop_one image q place trail
  open_last q o = found.open_full image q place trail (opens_here ∙ o)

  -- where what is offered first fills the state, the rest is left alone
  module _ (q : Query) {S : Type 0} (step : S → Reading → S) (s : S) {first : S} {Full : S → Type 0} (keeps : Keeps Full step) (full : Full first) where
    pub stop_fills : opens_at place ≡ true → first ≡ offer_all step s (stop_one image q place trail) → first ≡ offer_all step s (found_at image q place trail)
    stop_fills o f = rw (found.open_all image q place trail (opens_here ∙ o), offer_append, ← f) (sym (offer_full step keeps first _ full))

    pub end_fills : opens_at place ≡ false → first ≡ offer_all step s (given (complete (grammar_of image) q (node_at image place trail)) (reading_of trail ∷ []))
        → first ≡ offer_all step s (found_at image q place trail)
    end_fills o f = let b = found.pair_begins image q place trail (opens_here ∙ o) in rw (b.1, offer_append, ← f) (sym (offer_full step keeps first b.0 full))

  pub pair_last : (q : Query) → opens_at place ≡ false → 40 ≤ trail.pairs
      → found_at image q place trail ≡ given (complete (grammar_of image) q (node_at image place trail)) (reading_of trail ∷ [])
  pair_last q o = found.pair_full image q place trail (opens_here ∙ o)

-- where no entry opens, with the entry that is open there, or the path ended: what is found is the same, and no more steps are left
pub record Settled (image index : List ℕ) (h : Header) (place : Place) (trail : Trail) (last : ℕ) : Type 0 where
  pub underway : Underway image index h (with_last place last) trail
  pub shut : opens_at (with_last place last) ≡ false
  pub same : (q : Query) → found_at image q (with_last place last) trail ≡ found_at image q place trail
  pub no_more : steps_after (with_last place last) trail ≤ steps_after place trail

module _ {image index : List ℕ} {h : Header} {place : Place} {trail : Trail} (underway : Underway image index h place trail) where
  pub settled_left : place.from < place.to → Settled image index h place trail place.last
  unfolding opens_at
  settled_left l = record { underway = underway; shut = rw (lt-leb place.to place.from l) refl; same = λ q. refl; no_more = omega arith }

  over_underway : Underway image index h (with_last place ended) trail
  over_underway = record { accepted = underway.accepted; indexed = underway.indexed; stands = stopped_stands place image underway.stands; short = underway.short }

  over_shut : opens_at (with_last place ended) ≡ false
  unfolding opens_at
  over_shut = right_false (leb place.to place.from) false refl

  ended_already : place.last ≡ ended → with_last place ended ≡ place
  ended_already e = ap (with_last place) (sym e)

  only_opens : place.to ≤ place.from → OnlyStops image place.last → opens_at place ≡ true
  unfolding opens_at stops_after
  only_opens l only =
      let few = ltb→lt place.last ended (and_out (ltb place.last ended) ((grammar_of image).ends place.last) (of_true (stops_after image place.last) only.stops)).0 in
      rw (le-leb place.to place.from l, ne_eqb place.last ended (λ e. omega arith)) refl

  pub settled_over : (q : Query) → place.to ≤ place.from → (place.last ≡ ended) ⊎ OnlyStops image place.last → Settled image index h place trail ended
  settled_over q l (inl e) =
      record {
        underway = over_underway;
        shut = over_shut;
        same = λ q. ap (λ (p : Place). found_at image q p trail) (ended_already e);
        no_more = omega
            (arith, ap (λ (p : Place). steps_after p trail) (ended_already e));
      }
  settled_over q l (inr only) =
      let o = only_opens l only in
      let go = stopped_node place in
      record {
        underway = over_underway;
        shut = over_shut;
        same = λ q. only_turn underway o (with_last place ended) go q only;
        no_more = omega (arith, stop_less underway o (with_last place ended) go q);
      }

-- at the head of the loop that opens entries
pub record Opening (image index : List ℕ) (h : Header) (place : Place) (trail : Trail) : Type 0 where
  pub underway : Underway image index h place trail
  pub open_here : opens_at place ≡ true
  pub spare : trail.entries < 16

module _ {image index : List ℕ} {h : Header} {place : Place} {trail : Trail} (o : Opening image index h place trail) where
  pub entry_few : (e : ℕ) → e < h.entries → e < 65536
  entry_few e j = omega (arith, o.underway.accepted.laid.limits.entries_most)

  entries_are : (header image).entries ≡ h.entries
  entries_are = ap (λ (g : Header). g.entries) (same_header o.underway)

  -- what the ending finds is offered first, and then what the entries find
  pub open_offered : (q : Query) {S : Type 0} (step : S → Reading → S) (s : S) {stopped last : S}
      → stopped ≡ offer_all step s (stop_one image q place trail)
      → last ≡ offer_all step stopped (flat_map (entry_one image q place trail) (below h.entries))
      → last ≡ offer_all step s (found_at image q place trail)
  open_offered q step s f g = rw (found.open_all image q place trail (opens_here o.underway ∙ o.open_here), entries_are, offer_append, ← f) g

  -- an entry that may not open finds nothing
  pub entry_none_lem : (q : Query) (e : ℕ) → may_enter image q.entries place.last trail.entries e ≡ false → entry_one image q place trail e ≡ []
  entry_none_lem q = found.entry_none_lem image q place trail o.spare

  -- entry e opens
  module _ (e : ℕ) {longer : Trail} (holds : Holds longer (with_entry (reading_of trail) e) (trail.entries + 1) trail.pairs) (next : Place)
      (go : (q : Query) (n p : ℕ) → node_of image next (suc n) p ≡ go_at (grammar_of image) q true (node_of image place n p) (suc e)) where
    pub open_underway : Standing image next → Underway image index h next longer
    open_underway s = record { accepted = o.underway.accepted; indexed = o.underway.indexed; stands = s; short = holds.short }

    opened : (q : Query) → eqb next.last ended ≡ false
    unfolding node_of go_at
    opened q = ap (λ (n : Node). n.ended) (go q 0 0)

    pub open_less : (q : Query) → steps_after place trail ≡ suc (steps_after next longer)
    open_less q = rw (goes_on o.underway o.open_here, opened q) (omega (arith, holds.entries_are, holds.pairs_are, o.spare))

    pub open_turn : (q : Query) → may_enter image q.entries place.last trail.entries e ≡ true → found_at image q next longer ≡ entry_one image q place trail e
    open_turn q may =
        found.entry_one_lem image q place trail (opens_here o.underway ∙ o.open_here) o.spare e may next longer
        (ap₂ (node_of image next) (holds.entries_are ∙ add-one trail.entries) holds.pairs_are ∙ go q trail.entries trail.pairs)
        holds.reading

-- at the head of the loop that tries the candidates of letter a, which comes next
pub record Pairing (image index : List ℕ) (h : Header) (place : Place) (trail : Trail) (a : ℕ) : Type 0 where
  pub underway : Underway image index h place trail
  pub shut : opens_at place ≡ false
  pub spare : trail.pairs < 40
  pub letter : a ≡ head_of (rest_of image place)
  pub in_letters : a ≤ h.letters

module _ {image index : List ℕ} {h : Header} {place : Place} {trail : Trail} {a : ℕ} (o : Pairing image index h place trail a) where
  pub pair_found : (q : Query) → found_at image q place trail
      ≡ given (complete (grammar_of image) q (node_at image place trail)) (reading_of trail ∷ []) ++ flat_map (candidate_one image q place trail a) (below (length (candidates image a)))
  pair_found q =
      found.pair_all image q place trail o.spare (opens_here o.underway ∙ o.shut)
      ∙ ap (λ (l : List Reading). given (complete (grammar_of image) q (node_at image place trail)) (reading_of trail ∷ []) ++ l)
      (ap (λ (x : ℕ). flat_map (pair_one image q place trail) (candidates image x)) (sym o.letter) ∙ flat_map_places (pair_one image q place trail) 0 (candidates image a))

  -- what ends here is offered first, and then what the candidates find
  pub pair_offered : (q : Query) {S : Type 0} (step : S → Reading → S) (s : S) {ended last : S}
      → ended ≡ offer_all step s (given (complete (grammar_of image) q (node_at image place trail)) (reading_of trail ∷ []))
      → last ≡ offer_all step ended (flat_map (candidate_one image q place trail a) (below (length (candidates image a))))
      → last ≡ offer_all step s (found_at image q place trail)
  pair_offered q step s f g = rw (pair_found q, offer_append, ← f) g

  -- candidate k is tried
  module _ {k p : ℕ} (c : Candidate image a k p) where
    pub pair_none : (q : Query) → Shut image q place p → candidate_one image q place trail a k ≡ []
    pair_none q shut = ap (pair_one image q place trail) (sym c.this) ∙ found.pair_skip image q place trail o.spare p (shut trail.entries trail.pairs o.spare)

    -- and is taken
    module _ {q : Query} {next : Place} (took : Took image q place p next) {longer : Trail} (holds : Holds longer (with_pair (reading_of trail) p) trail.entries (trail.pairs + 1)) where
      pub pair_underway : Underway image index h next longer
      pair_underway = record { accepted = o.underway.accepted; indexed = o.underway.indexed; stands = took.stands; short = holds.short }

      same_ended : eqb next.last ended ≡ eqb place.last ended
      unfolding node_of go_at
      same_ended = ap (λ (n : Node). n.ended) (took.node_is 0 0)

      pub pair_less : steps_after place trail ≡ suc (steps_after next longer)
      pair_less = rw same_ended (go (eqb place.last ended))
        where
          go : (b : Bool) → steps_left b trail.entries trail.pairs ≡ suc (steps_left b longer.entries longer.pairs)
          go true = omega (arith, holds.entries_are, holds.pairs_are, o.spare)
          go false = omega (arith, holds.entries_are, holds.pairs_are, o.spare)

      pub pair_turn : found_at image q next longer ≡ candidate_one image q place trail a k
      pair_turn =
          found.pair_one_lem image q place trail o.spare p next longer (took.may trail.entries trail.pairs o.spare)
          (ap₂ (node_of image next) holds.entries_are (holds.pairs_are ∙ add-one trail.pairs) ∙ took.node_is trail.entries trail.pairs)
          holds.reading
          ∙ ap (pair_one image q place trail) c.this
