-- What taking a pair does to a place, as the model's tree has it, and when it may be taken.
use Prim.Native.Nat.{ℕ, zero, suc, ◌-◌, ◌<◌, ◌≤◌}
use native.Mathlib.Omega.{arith}
use native.Mathlib.Decide.{dec_lt}
use mathlib.Core.Bool.{Bool, true, false, ◌&&◌}
use mathlib.Core.Path.{◌≡◌, refl, ap, ap₂, ◌∙◌, subst}
use mathlib.Core.List.{List, [], ◌∷◌}
use lib.ListN.{length, get_or, take, drop}
use lib.Seq.{drop-cons}
use lib.Dec.{T, leb, ltb, eqb, ltb→lt}
use borrow.Author.Tests.{lt-ltb, le-leb}
use Rattle.model.specs.Lists.{every, within}
use Rattle.model.specs.Blocks.{Header, header}
use Rattle.model.specs.GrammarOf.{grammar_of}
use Rattle.model.specs.Query.{Pattern, Query, anything}
use Rattle.model.specs.Tree.{Level, spells, left, letters_and, nulls_and, allows_side, level_may, line_may, is_nil, may_at, go_at, complete}
use Rattle.model.proofs.Booleans.{and_out, true_of, of_true, right_true, within_true}
use Rattle.image.specs.Accepted.{Accepted}
use Rattle.image.proofs.Records.{total_most}
use Rattle.letters.proofs.Laws.{pair_at}
use Rattle.rules.specs.Live.{Live, step_of, alive_of, finish_of}
use Rattle.listing.specs.declared.place.Place.{Place}
use Rattle.listing.specs.Levels.{level_of, level_may_by, level_go_by, Bounded}
use Rattle.listing.specs.Places.{ended, ways_after, stops_after, rest_of, node_of, Standing, Shut, Took}

-- of an accepted image
module _ (image : List ℕ) (h : Header) (a : Accepted image h) where
  pub image_most : length image ≤ 65536
  image_most = omega (arith, a.laid.whole, total_most h a.laid.limits)

-- a letter taken off the front of a part of the image
module _ (image : List ℕ) (from to : ℕ) (inside : to ≤ length image) where
  abbrev pub part : ℕ → List ℕ
  part i = take (to - i) (drop i image)

  pub part_nil : to ≤ from → part from ≡ []
  part_nil h = let z : to - from ≡ 0 = omega arith in rw z refl

  pub part_cons : from < to → part from ≡ get_or image from 0 ∷ part (suc from)
  part_cons h =
      let k : from < length image = omega arith in
      let w : to - from ≡ suc (to - suc from) = omega arith in
      ap₂ (λ (n : ℕ) (l : List ℕ). take n l) w (drop-cons image from 0 k)

  -- what a side leaves of it
  left_part : (x : ℕ) → T (spells (part from) x) → part (letters_and from x) ≡ left (part from) x
  left_part zero t = refl
  left_part (suc a) t = go (dec_lt from to)
    where
      go : Dec (from < to) → part (suc from) ≡ left (part from) (suc a)
      go (yes h) = rw (part_cons h) refl
      go (no h) = absurd (subst (λ (l : List ℕ). T (spells l (suc a))) (part_nil (omega arith)) t)

  left_order : (x : ℕ) → from ≤ to → T (spells (part from) x) → letters_and from x ≤ to
  left_order zero h t = h
  left_order (suc a) h t = go (dec_lt from to)
    where
      go : Dec (from < to) → suc from ≤ to
      go (yes h) = h
      go (no h) = absurd (subst (λ (l : List ℕ). T (spells l (suc a))) (part_nil (omega arith)) t)

  left_letters : (f : ℕ → Bool) (x : ℕ) → T (every f (part from)) → T (every f (left (part from) x))
  left_letters f x t = go (part from) x t
    where
      go : (l : List ℕ) (x : ℕ) → T (every f l) → T (every f (left l x))
      go l zero t = t
      go [] (suc a) t = t
      go (y ∷ l) (suc a) t = (and_out (f y) (every f l) t).1

-- the tests that are left for a pair that spells on: its nulls, the surface level, the rules
abbrev pub nulls_let : List ℕ → Place → ℕ → Bool
nulls_let image place p = leb (nulls_and place.nulls (pair_at image p).lexical) 8

abbrev pub level_lets : List ℕ → Pattern → Place → ℕ → Bool
level_lets image t place p = level_may_by t (level_of place.surface) (pair_at image p).surface

abbrev pub rules_let : List ℕ → Place → ℕ → Bool
rules_let image place p = alive_of (grammar_of image) (step_of (grammar_of image) place.states p)

allows_anything : (i x : ℕ) → allows_side anything i x ≡ true
allows_anything i zero = refl
allows_anything i (suc x) = refl

-- where nothing is asked of the spoken line, the surface level decides whether a pair may be taken
spoken_free : (surface spoken : ℕ → ℕ) (t u : Pattern) → u ≡ anything → (c d : Level) (p : ℕ) → (level_may surface t c p && line_may spoken u d p) ≡ level_may surface t c p
spoken_free surface spoken t u free c d p =
    let allowed : line_may spoken u d p ≡ true = ap (λ (v : Pattern). allows_side v d.letters (spoken p)) free ∙ allows_anything d.letters (spoken p) in
    right_true (level_may surface t c p) (line_may spoken u d p) allowed

-- in a grammar of two levels the spoken line ends where the surface does: its bounds are kept
spoken_ends_lem : (l n : ℕ) (m e : Bool) → l ≤ 32 → n ≤ 8 → e ≡ true → (ltb 0 l && m && (within 1 32 l && leb n 8 && e)) ≡ (ltb 0 l && m)
spoken_ends_lem l n m e h k t = go (ltb 0 l) refl
  where
    go : (b : Bool) → ltb 0 l ≡ b → (b && m && (within 1 32 l && leb n 8 && e)) ≡ (b && m)
    go false q = refl
    go true q =
        let some = ltb→lt 0 l (of_true (ltb 0 l) q) in
        let ends : (within 1 32 l && leb n 8 && e) ≡ true = ap₂ (λ (a b : Bool). a && b && e) (within_true 1 32 l (omega arith) h) (le-leb n 8 k) ∙ t in
        right_true m (within 1 32 l && leb n 8 && e) ends

-- the place after pair p, part by part
pub record Moved (image : List ℕ) (place : Place) (p : ℕ) (after : Place) : Type 0 where
  pub from_is : after.from ≡ letters_and place.from (pair_at image p).lexical
  pub to_is : after.to ≡ place.to
  pub last_is : after.last ≡ place.last
  pub nulls_are : after.nulls ≡ nulls_and place.nulls (pair_at image p).lexical
  pub level_is : level_of after.surface ≡ level_go_by (level_of place.surface) (pair_at image p).surface
  pub states_are : take (grammar_of image).rules after.states ≡ step_of (grammar_of image) place.states p
  pub nulls_in : after.nulls ≤ 8
  pub level_in : Bounded after.surface
  pub states_live : Live image after.states

-- pair p spells on where the search stands
pub record SpellsOn (image : List ℕ) (place : Place) (p : ℕ) : Type 0 where
  pub stands : Standing image place
  pub spells_on : T (spells (rest_of image place) (pair_at image p).lexical)

module _ {image : List ℕ} {place : Place} {p : ℕ} (q : Query) (here : SpellsOn image place p) (free : q.spoken ≡ anything) where
  pair_tests : (n m : ℕ) → m < 40 → may_at (grammar_of image) q false (node_of image place n m) p ≡ (nulls_let image place p && level_lets image q.letters place p && rules_let image place p)
  unfolding may_at node_of grammar_of level_may_by
  pair_tests n m h =
      let side : ℕ → ℕ = λ p. (pair_at image p).surface in
      let level = level_of place.surface in
      rw (true_of (spells (rest_of image place) (pair_at image p).lexical) here.spells_on, lt-ltb m 40 h)
      (ap (λ (b : Bool). nulls_let image place p && b && rules_let image place p) (spoken_free side side q.letters q.spoken free level level p))

  -- not taken, by the first test that fails
  refused : (nulls_let image place p && level_lets image q.letters place p && rules_let image place p) ≡ false → Shut image q place p
  refused e n m h = pair_tests n m h ∙ e

  pub refused_nulls : nulls_let image place p ≡ false → Shut image q place p
  refused_nulls e = refused (rw e refl)

  pub refused_level : nulls_let image place p ≡ true → level_lets image q.letters place p ≡ false → Shut image q place p
  refused_level a e = refused (rw (a, e) refl)

  pub refused_rules : nulls_let image place p ≡ true → level_lets image q.letters place p ≡ true → rules_let image place p ≡ false → Shut image q place p
  refused_rules a b e = refused (rw (a, b, e) refl)

  -- taken
  module _ {after : Place} (moved : Moved image place p after) where
    rest_is : rest_of image after ≡ left (rest_of image place) (pair_at image p).lexical
    rest_is =
        ap₂ (λ (i j : ℕ). take (j - i) (drop i image)) moved.from_is moved.to_is
        ∙ left_part image place.from place.to here.stands.in_image (pair_at image p).lexical here.spells_on

    after_node : (n m : ℕ) → node_of image after n (suc m) ≡ go_at (grammar_of image) q false (node_of image place n m) p
    unfolding node_of go_at grammar_of level_go_by
    after_node n m = λ i.
        record {
          rest = rest_is i;
          ways = ways_after image (moved.last_is i);
          stop = stops_after image (moved.last_is i);
          ended = eqb (moved.last_is i) ended;
          entries = n;
          pairs = suc m;
          nulls = moved.nulls_are i;
          surface = moved.level_is i;
          spoken = moved.level_is i;
          states = moved.states_are i;
        }

    after_stands : Standing image after
    after_stands =
        record {
          in_order = rw (moved.from_is, moved.to_is) (left_order image place.from place.to here.stands.in_image (pair_at image p).lexical here.stands.in_order here.spells_on);
          in_image = rw moved.to_is here.stands.in_image;
          letters_right = rw rest_is (left_letters image place.from place.to here.stands.in_image (within 2 (header image).letters) (pair_at image p).lexical here.stands.letters_right);
          last_right = rw moved.last_is here.stands.last_right;
          nulls_in = moved.nulls_in;
          surface_in = moved.level_in;
          states_live = moved.states_live;
        }

    pub took : nulls_let image place p ≡ true → level_lets image q.letters place p ≡ true → rules_let image place p ≡ true → Took image q place p after
    took a b c = record { may = λ n m k. pair_tests n m k ∙ rw (a, b, c) refl; node_is = after_node; stands = after_stands }

-- the tests that are left for the end of a reading, where every letter is paired and the path has ended
module _ (image : List ℕ) (q : Query) (place : Place) (n m : ℕ) (here : (place.from ≡ place.to) × (place.last ≡ ended))
    (free : q.spoken ≡ anything) (bounded : Bounded place.surface) where
  nothing_left : is_nil (rest_of image place) ≡ true
  nothing_left = let z : place.to - place.from ≡ 0 = omega (arith, here.0) in rw z refl

  pub end_tests : complete (grammar_of image) q (node_of image place n m)
      ≡ (q.entries.may_end n && (ltb 0 place.surface.letters && q.letters.may_end place.surface.letters) && finish_of (grammar_of image) place.states)
  unfolding complete node_of grammar_of
  end_tests =
      let l = place.surface.letters in
      let line = spoken_ends_lem l place.surface.nulls (q.letters.may_end l) (q.spoken.may_end l) bounded.letters_in bounded.nulls_in (ap (λ (v : Pattern). v.may_end l) free) in
      rw (nothing_left, here.1)
      (ap (λ (b : Bool). q.entries.may_end n && b && finish_of (grammar_of image) place.states) line)
