-- A node's numbers tell the node: nodes of the same numbers are the same, and from both nothing is found or from neither.
use Prim.Native.Nat.{ℕ, ◌+◌, ◌*◌, ◌-◌, ◌/◌, ◌%◌, ◌<◌, ◌≤◌}
use native.Mathlib.Omega.{arith}
use mathlib.Core.Bool.{Bool, true, false, ◌&&◌, cond}
use mathlib.Core.Logic.{◌⊎◌, inl, inr}
use mathlib.Core.Path.{◌≡◌, refl, sym, ap, ap₂, ◌∙◌, subst}
use mathlib.Core.List.{List, []}
use lib.ListN.{get_or, drop}
use lib.Dec.{eqb}
use borrow.Author.Tests.{lt-ltb, le-ltb, eq-eqb, ne_eqb}
use Rattle.model.specs.Lists.{below}
use Rattle.model.specs.Blocks.{header}
use Rattle.model.specs.Lexicon.{in_lexicon, entry, may_stop, goes_to}
use Rattle.model.specs.Query.{Query}
use Rattle.model.specs.Tree.{Node}
use Rattle.model.specs.GrammarOf.{grammar_of}
use Rattle.model.proofs.Lists.{below_from}
use Rattle.lexicon.specs.Sole.{WayOf}
use Rattle.digits.specs.Ways.{Names}
use Rattle.rules.specs.Paths.{in_some}
use Rattle.rules.proofs.PathLaws.{any_same}
use Rattle.rows.specs.Trail.{reading_of}
use Rattle.listing.specs.declared.place.Place.{Place}
use Rattle.listing.specs.Gather.{gather, steps_from}
use Rattle.listing.specs.Places.{root, ended, ways_after, stops_after, rest_of, node_of}
use Rattle.listing.specs.Search.{node_at, found_at}
use Rattle.listing.proofs.Places.{stops_entry}
use Rattle.listing.proofs.Ranges.{entry_ways}
use Rattle.dead.specs.declared.Left.{Left}
use Rattle.dead.specs.Dead.{DeadAt, letters_left, none_left, set_left, set_by, none_open, rest_by, follows_by, ends_by, ways_by, stop_by, ended_by, Tells, key_by, KeyOf}

module _ (image : List ℕ) where
  pub letters_tell : (place : Place) → place.from < place.to → Tells image place (letters_left place)
  unfolding rest_by ways_by stop_by ended_by
  letters_tell place h =
      let some = lt-ltb place.from place.to h in
      let order = le-ltb place.to place.from (omega arith) in
      record { rest_is = rw some refl; ways_is = λ f. rw order refl; stop_is = rw order refl; ended_is = rw order refl }

  module _ (place : Place) (none : place.to ≤ place.from) where
    no_rest : rest_of image place ≡ []
    no_rest = let e : place.to - place.from ≡ 0 = omega arith in rw e refl

    -- an entry is open: what its number says is what may follow it, and whether it ends
    none_by : place.last < ended → (next : ℕ) → ((f : ℕ) → (grammar_of image).follows place.last f ≡ follows_by image next f)
        → (grammar_of image).ends place.last ≡ ends_by image next → Tells image place (none_left next)
    unfolding rest_by ways_by stop_by ended_by ways_after stops_after
    none_by h next follows ends =
        let not_root = ne_eqb place.last root (λ e. omega arith) in
        let not_ended = ne_eqb place.last ended (λ e. omega arith) in
        record { rest_is = no_rest; ways_is = λ f. rw (not_root, not_ended) (follows f); stop_is = rw (lt-ltb place.last ended h) ends; ended_is = not_ended }

    -- by the entry itself
    pub entry_tells : place.last < ended → Tells image place (none_left (256 + place.last))
    unfolding follows_by ends_by
    entry_tells h =
        let over = le-ltb (256 + place.last) 256 (omega arith) in
        let own : 256 + place.last - 256 ≡ place.last = omega arith in
        none_by h (256 + place.last) (λ f. rw (over, own) refl) (rw (over, own) refl)

    -- by a way that says what it goes to, and whether it ends
    by_way : place.last < ended → (header image).lexicons ≤ 64 → (way : ℕ) → way < 256
        → ((x : ℕ) → x < 64 → goes_to (entry image place.last) (header image).form x ≡ eqb way x) → may_stop (entry image place.last) (header image).form ≡ eqb way 255
        → Tells image place (none_left way)
    unfolding follows_by ends_by grammar_of
    by_way h few way l goes stop =
        none_by h way
        (λ f. rw (lt-ltb way 256 l) (any_same (λ x. goes_to (entry image place.last) (header image).form x && in_lexicon image x f) (λ x. eqb way x && in_lexicon image x f)
        (below (header image).lexicons) (λ x m. ap (λ (b : Bool). b && in_lexicon image x f) (goes x (omega (arith, below_from (header image).lexicons x m))))))
        (rw (lt-ltb way 256 l) stop)

    -- by its sole way
    pub way_tells : place.last < ended → (header image).lexicons ≤ 64 → (way : ℕ) → WayOf (entry image place.last) (header image).form way → (way ≡ 254 → ⊥)
        → Tells image place (none_left way)
    way_tells h few way w sole = go w.in_bound
      where
        go : (way < 64) ⊎ ((way ≡ 254) ⊎ (way ≡ 255)) → Tells image place (none_left way)
        go (inl l) = by_way h few way (omega arith) (w.goes l).1 ((w.goes l).0 ∙ sym (ne_eqb way 255 (λ e. omega arith)))
        go (inr (inl e)) = absurd (sole e)
        go (inr (inr e)) = by_way h few way (omega arith) (λ x m. (w.ends e).1 x m ∙ sym (ne_eqb way x (λ f. omega arith))) ((w.ends e).0 ∙ sym (eq-eqb way 255 e))

    -- by the set of them
    pub set_tells : place.last < ended → (header image).lexicons ≤ 64 → (bits : ℕ) (stop : Bool) → Names (goes_to (entry image place.last) (header image).form) bits
        → stop ≡ may_stop (entry image place.last) (header image).form → Tells image place (set_left bits stop)
    unfolding rest_by ways_by stop_by ended_by
    set_tells h few bits stop names stops =
        let l = set_left bits stop in
        let none_left_here = le-ltb l.from l.to (omega arith) in
        let order = lt-ltb l.to l.from (omega arith) in
        let set = le-ltb l.from 32768 (omega arith) in
        record {
          rest_is = rw none_left_here no_rest;
          ways_is = λ f. rw (order, set) (entry_ways image place.last bits h few names f ∙ ap (λ (n : ℕ). in_some image (header image).lexicons n f) (sym (set_back bits stop)));
          stop_is = rw (order, set) (sym (stops_entry image place.last h stop stops) ∙ sym (mark_back (bits / 32768 / 32768) stop));
          ended_is = rw order (ne_eqb place.last ended (λ e. omega arith));
        }
      where
        half : (q : ℕ) (stop : Bool) → (2 * q + cond stop 1 0) / 2 ≡ q
        half q true = omega arith
        half q false = omega arith

        set_back : (bits : ℕ) (stop : Bool) → set_by (set_left bits stop) ≡ bits
        set_back bits stop = omega (arith, half (bits / 32768 / 32768) stop)

        mark_back : (q : ℕ) (stop : Bool) → eqb ((2 * q + cond stop 1 0) % 2) 1 ≡ stop
        mark_back q true = eq-eqb ((2 * q + 1) % 2) 1 (omega arith)
        mark_back q false = ne_eqb ((2 * q + 0) % 2) 1 (λ e. omega arith)

    pub unopened_tells : Tells image place (none_open place.last)
    unfolding rest_by ways_by stop_by ended_by
    unopened_tells = record { rest_is = no_rest; ways_is = λ f. refl; stop_is = refl; ended_is = refl }

  -- the node by its numbers
  left_by : List ℕ → Left
  left_by key = record { from = get_or key 2 0; to = get_or key 3 0; last = get_or key 4 0 }

  node_by : List ℕ → Node
  node_by key =
      record {
        rest = rest_by image (left_by key);
        ways = ways_by image (left_by key);
        stop = stop_by image (left_by key);
        ended = ended_by image (left_by key);
        entries = get_or key 1 0;
        pairs = get_or key 0 0 - 1;
        nulls = get_or key 5 0;
        surface = record { letters = get_or key 6 0; nulls = get_or key 7 0 };
        spoken = record { letters = get_or key 6 0; nulls = get_or key 7 0 };
        states = drop 8 key;
      }

  node_by_lem : (place : Place) (entries pairs : ℕ) (left : Left) → Tells image place left → node_of image place entries pairs ≡ node_by (key_by image left place entries pairs)
  unfolding node_of node_by left_by
  node_by_lem place entries pairs left told =
      let one_less : pairs ≡ pairs + 1 - 1 = omega arith in
      λ i.
      record {
        rest = told.rest_is i;
        ways = λ f. told.ways_is f i;
        stop = told.stop_is i;
        ended = told.ended_is i;
        entries = entries;
        pairs = one_less i;
        nulls = place.nulls;
        surface = record { letters = place.surface.letters; nulls = place.surface.nulls };
        spoken = record { letters = place.surface.letters; nulls = place.surface.nulls };
        states = drop 8 (key_by image left place entries pairs);
      }

  module _ (p r : Place) (entries entries' pairs pairs' : ℕ) where
    -- nodes of the same numbers are the same
    pub same_node : {key : List ℕ} → KeyOf image p entries pairs key → KeyOf image r entries' pairs' key → node_of image p entries pairs ≡ node_of image r entries' pairs'
    same_node a b = node_by_lem p entries pairs a.left a.tells ∙ ap node_by (sym a.is ∙ b.is) ∙ sym (node_by_lem r entries' pairs' b.left b.tells)

    -- so from both nothing is found
    pub dead_same : (q : Query) → node_of image p entries pairs ≡ node_of image r entries' pairs' → DeadAt image q p entries pairs → DeadAt image q r entries' pairs'
    unfolding node_of found_at
    dead_same q e dead trail es ps =
        let es' : trail.entries ≡ entries = es ∙ sym (ap (λ (n : Node). n.entries) e) in
        let ps' : trail.pairs ≡ pairs = ps ∙ sym (ap (λ (n : Node). n.pairs) e) in
        let at : node_at image p trail ≡ node_at image r trail = ap₂ (node_of image p) es' ps' ∙ e ∙ sym (ap₂ (node_of image r) es ps) in
        subst (λ (n : Node). gather (grammar_of image) q (steps_from n) n (reading_of trail) ≡ []) at (dead trail es' ps')
