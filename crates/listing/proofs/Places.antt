-- What opening an entry, and ending the path, do to a place, as the model's tree has it.
use Prim.Native.Nat.{ℕ, suc, ◌+◌, ◌-◌, ◌<◌, ◌≤◌}
use native.Mathlib.Omega.{arith}
use mathlib.Core.Bool.{Bool, true, false}
use mathlib.Core.Path.{◌≡◌, refl, sym, ap, ap₂, ◌∙◌, subst}
use mathlib.Core.Logic.{inl, inr}
use mathlib.Core.List.{List}
use lib.ListN.{take, drop}
use lib.Dec.{T, eqb}
use borrow.Author.Tests.{ne_eqb, lt-ltb, le-ltb}
use Rattle.model.specs.Lists.{every, within}
use Rattle.model.specs.Blocks.{Header, header, record_start}
use Rattle.model.specs.Lexicon.{entry, form_length, form_of, may_stop, goes_to}
use Rattle.model.specs.GrammarOf.{grammar_of}
use Rattle.model.specs.Query.{Query}
use Rattle.model.specs.Refusals.{right_entries}
use Rattle.model.specs.Beside.{form_start}
use Rattle.model.specs.Tree.{go_at}
use Rattle.model.proofs.Booleans.{of_true}
use Rattle.image.specs.Accepted.{Accepted}
use Rattle.digits.specs.Ways.{Names}
use Rattle.lexicon.proofs.Laws as entries
use Rattle.listing.proofs.Ranges.{some_none, entry_ways}
use Rattle.listing.specs.declared.place.Place.{Place}
use Rattle.listing.specs.Levels.{level_of}
use Rattle.listing.specs.Places.{root, ended, ways_after, stops_after, rest_of, with_last, node_of, Standing, OnlyStops}

module _ (image : List ℕ) (h : Header) (a : Accepted image h) (e : ℕ) (inside : e < h.entries) where
  right : T (right_entries image)
  right = of_true (right_entries image) a.entries_right

  -- the place after it
  abbrev entered : ℕ → ℕ → Place → Place
  entered at len place = record { from = at + 1; to = at + 1 + len; last = e; nulls = place.nulls; surface = place.surface; states = place.states }

  -- an entry of the image is neither where none is open nor where the path has ended
  few : e < ended
  few = omega (arith, a.laid.limits.entries_most)

  not_root : eqb e root ≡ false
  not_root = ne_eqb e root (λ f. omega (arith, few))

  not_ended : eqb e ended ≡ false
  not_ended = ne_eqb e ended (λ f. omega (arith, few))

  ways_are : ways_after image e ≡ (grammar_of image).follows e
  unfolding ways_after
  ways_are = rw (not_root, not_ended) refl

  stop_is : stops_after image e ≡ (grammar_of image).ends e
  unfolding stops_after
  stop_is = rw (lt-ltb e ended few) refl

  module _ (at len : ℕ) (place : Place) (e1 : at ≡ record_start h 6 e) (e2 : len ≡ form_length (entry image e)) where
    short : form_length (entry image e) ≤ 12
    short = entries.form_short image h a.laid right e inside

    start_is : at + 1 ≡ form_start image e
    unfolding form_start
    start_is = ap (λ (n : ℕ). n + 1) (e1 ∙ ap (λ (g : Header). record_start g 6 e) a.laid.header_is)

    rest_is : rest_of image (entered at len place) ≡ form_of (entry image e)
    rest_is =
        let w : at + 1 + len - (at + 1) ≡ form_length (entry image e) = omega arith in
        ap₂ (λ (n m : ℕ). take n (drop m image)) w start_is ∙ sym (entries.form_part image h a.laid e short)

    form_is : rest_of image (entered at len place) ≡ (grammar_of image).form e
    unfolding grammar_of
    form_is = rest_is

    pub entered_node : (q : Query) (n p : ℕ) → node_of image (entered at len place) (suc n) p ≡ go_at (grammar_of image) q true (node_of image place n p) (suc e)
    unfolding node_of go_at
    entered_node q n p = λ i.
        record {
          rest = form_is i;
          ways = ways_are i;
          stop = stop_is i;
          ended = not_ended i;
          entries = suc n;
          pairs = p;
          nulls = place.nulls;
          surface = level_of place.surface;
          spoken = level_of place.surface;
          states = take (header image).rules place.states;
        }

    pub entered_stands : Standing image place → Standing image (entered at len place)
    entered_stands s = record {
      in_order = omega arith;
      in_image = omega (arith, entries.form_inside image h a.laid e inside short, start_is);
      letters_right = subst (λ (l : List ℕ). T (every (within 2 (header image).letters) l)) (sym rest_is) (subst (λ (g : Header). T (every (within 2 g.letters) (form_of (entry image e)))) a.laid.header_is (entries.form_letters_lem image h a.laid right e inside));
      last_right = inr (inr (omega (arith, ap (λ (g : Header). g.entries) a.laid.header_is)));
      nulls_in = s.nulls_in;
      surface_in = s.surface_in;
      states_live = s.states_live;
    }

-- the path ends
pub stopped_node : (place : Place) (image : List ℕ) (q : Query) (n p : ℕ) → node_of image (with_last place ended) n p ≡ go_at (grammar_of image) q true (node_of image place n p) 0
unfolding ways_after stops_after node_of go_at
stopped_node place image q n p = refl

pub stopped_stands : (place : Place) (image : List ℕ) → Standing image place → Standing image (with_last place ended)
stopped_stands place image s = record { in_order = s.in_order; in_image = s.in_image; letters_right = s.letters_right; last_right = inr (inl refl); nulls_in = s.nulls_in; surface_in = s.surface_in; states_live = s.states_live }

-- whether it may end, by the ways on of the last entry
module _ (image : List ℕ) (last : ℕ) where
  pub stops_none : ended ≤ last → false ≡ stops_after image last
  unfolding stops_after
  stops_none h = rw (le-ltb last ended h) refl

  pub stops_entry : last < ended → (stop : Bool) → stop ≡ may_stop (entry image last) (header image).form → stop ≡ stops_after image last
  unfolding stops_after grammar_of
  stops_entry h stop e = rw (lt-ltb last ended h) e

  -- it ends, and names no lexicon
  pub only_stops : last < ended → (header image).lexicons ≤ 64 → Names (goes_to (entry image last) (header image).form) 0 → stops_after image last ≡ true → OnlyStops image last
  only_stops h few names t = record { stops = t; none_next = λ e. entry_ways image last 0 h few names e ∙ some_none image (header image).lexicons e }
