-- The search begins at the root of the model's tree, with nothing read, where no rule fails at the front.
use Prim.Native.Nat.{ℕ}
use native.Mathlib.Omega.{arith}
use mathlib.Core.Bool.{Bool, false}
use mathlib.Core.Logic.{inl}
use mathlib.Core.Path.{◌≡◌, refl, sym, ap, ap₂, ◌∙◌, subst}
use mathlib.Core.List.{List, []}
use Rattle.model.specs.Lists.{given}
use Rattle.model.specs.Blocks.{Header, header}
use Rattle.model.specs.Lexicon.{in_lexicon}
use Rattle.model.specs.GrammarOf.{grammar_of}
use Rattle.model.specs.Readings.{Reading}
use Rattle.model.specs.Query.{Query}
use Rattle.model.specs.Tree.{Node, start, readings}
use Rattle.image.specs.Accepted.{Accepted}
use Rattle.image.specs.Index.{index_of}
use Rattle.rules.specs.Live.{Held, begun_of, alive_of}
use Rattle.rows.specs.declared.Trail.{Trail}
use Rattle.rows.specs.Trail.{Holds}
use Rattle.listing.specs.declared.place.Place.{Place}
use Rattle.listing.specs.Gather.{gather, steps_from}
use Rattle.listing.specs.Places as places
use Rattle.listing.specs.Places.{ways_after, stops_after, node_of}
use Rattle.listing.specs.Search.{node_at, found_at}
use Rattle.listing.proofs.Gather.{readings_gathered}
use Rattle.ahead.specs.Here.{Underway}

-- the root, with these states
abbrev pub root : List ℕ → Place
root states = record { from = 0; to = 0; last = places.root; nulls = 0; surface = record { letters = 0; nulls = 0 }; states = states }

-- the readings, by whether all rules are alive after the front
module _ (image : List ℕ) (q : Query) {lives : Bool} (front : alive_of (grammar_of image) (begun_of (grammar_of image)) ≡ lives) where
  front_readings : readings (grammar_of image) q ≡ given lives (gather (grammar_of image) q 57 (start (grammar_of image) q) (record { path = []; pairing = [] }))
  unfolding start
  front_readings =
      let g = grammar_of image in
      readings_gathered g q ∙ ap (λ (b : Bool). given b (gather g q 57 (start g q) (record { path = []; pairing = [] }))) front

pub dead_found : (image : List ℕ) (q : Query) → alive_of (grammar_of image) (begun_of (grammar_of image)) ≡ false → readings (grammar_of image) q ≡ []
dead_found image q front = front_readings image q front

module _
    {image index : List ℕ}
    {h : Header}
    {states : List ℕ}
    {trail : Trail}
    (ok : Accepted image h)
    (indexed : index ≡ index_of image)
    (front : Held image (begun_of (grammar_of image)) states)
    (holds : Holds trail (record { path = []; pairing = [] }) 0 0) where
  here : Accepted image (header image)
  here = subst (Accepted image) ok.laid.header_is ok

  pub start_underway : Underway image index h (root states) trail
  start_underway = record {
    accepted = ok;
    indexed = indexed;
    stands = record {
      in_order = omega arith;
      in_image = omega arith;
      letters_right = tt;
      last_right = inl refl;
      nulls_in = omega arith;
      surface_in = record { letters_in = omega arith; nulls_in = omega arith };
      states_live = front.live;
    };
    short = holds.short;
  }

  root_node : (q : Query) → node_of image (root states) 0 0 ≡ start (grammar_of image) q
  unfolding ways_after stops_after node_of start grammar_of
  root_node q = λ i. record {
    rest = [];
    ways = in_lexicon image 0;
    stop = false;
    ended = false;
    entries = 0;
    pairs = 0;
    nulls = 0;
    surface = record { letters = 0; nulls = 0 };
    spoken = record { letters = 0; nulls = 0 };
    states = front.states_are i;
  }

  root_steps : (q : Query) → steps_from (start (grammar_of image) q) ≡ 57
  unfolding steps_from start
  root_steps q = refl

  pub start_found : (q : Query) → found_at image q (root states) trail ≡ readings (grammar_of image) q
  unfolding found_at
  start_found q =
      let g = grammar_of image in
      let e : node_at image (root states) trail ≡ start g q = ap₂ (node_of image (root states)) holds.entries_are holds.pairs_are ∙ root_node q in
      ap₂ (λ (n : Node) (r : Reading). gather g q (steps_from n) n r) e holds.reading
      ∙ ap (λ (k : ℕ). gather g q k (start g q) (record { path = []; pairing = [] })) (root_steps q)
      ∙ sym (front_readings image q front.alive_is)
