-- Where an entry opens: one that the letters alone cannot lead through to the word's end finds nothing, so that the survivors find all.
use Prim.Native.Nat.{ℕ, suc, pred, ◌-◌, ◌<◌}
use native.Mathlib.Omega.{arith}
use mathlib.Core.Bool.{Bool, true, false}
use mathlib.Core.Path.{◌≡◌, refl, ◌∙◌}
use mathlib.Core.List.{List, [], Memᴰ}
use lib.ListN.{length, get_or}
use lib.Dec.{T}
use Rattle.model.specs.Lists.{below, given, flat_map, bit}
use Rattle.model.specs.Blocks.{header}
use Rattle.model.specs.Lexicon.{entry, form_of}
use Rattle.model.specs.Grammar.{Grammar}
use Rattle.model.specs.GrammarOf.{grammar_of}
use Rattle.model.specs.Readings.{Reading}
use Rattle.model.specs.Query.{Query}
use Rattle.model.specs.Tree.{Node, may_at, go_at}
use Rattle.model.proofs.Booleans.{of_true}
use Rattle.rows.specs.declared.Trail.{Trail}
use Rattle.rows.specs.Trail.{reading_of}
use Rattle.listing.specs.declared.place.Place.{Place}
use Rattle.listing.specs.Gather.{grow, gather, steps_from}
use Rattle.listing.specs.Places.{node_of}
use Rattle.listing.specs.Search.{node_at, entry_one}
use Rattle.listing.specs.Opening.{may_enter}
use Rattle.listing.proofs.Searching.{entry_none_lem}
use Rattle.listing.proofs.Loops.{flat_map_places}
use Rattle.positions.specs.Positions.{Feasible, Leads}
use Rattle.filter.specs.Reach.{Covers, HopeAt, Sound}
use Rattle.filter.specs.Lexicons.{after_in, Reaches}
use Rattle.positions.specs.Stack.{feasible_of, reach_of}
use Rattle.filter.specs.Listed.{Rising}
use Rattle.filter.specs.Survivors.{LeadsOn}
use Rattle.filter.proofs.Listed.{listed}
use Rattle.filter.proofs.Lost.{lost, hope_entry}
use Rattle.filter.proofs.Reach.{reaches_sound}

given_nil : {A : Type 0} (b : Bool) (l : List A) → l ≡ [] → given b l ≡ []
given_nil true l e = e
given_nil false l e = refl

-- an entry that opens at a node of any grammar
module _ (g : Grammar) (q : Query) (f : Feasible) (after : ℕ → ℕ → Bool) (covers : Covers g q f) (sound : Sound g q f after) where
  entered_hope : (n : Node) (e : ℕ) → e < g.entries → HopeAt g q f after (go_at g q true n (suc e)) → Leads f (g.form e) (λ k. T (after e k)) n.surface.letters
  unfolding go_at
  entered_hope n e inside s = hope_entry g q f after covers sound e inside (8 - n.nulls) (omega arith) n.surface.letters s

  pub entry_lost : (n : Node) (e : ℕ) → e < g.entries → (Leads f (g.form e) (λ k. T (after e k)) n.surface.letters → ⊥) → (k : ℕ) (r : Reading)
      → gather g q k (go_at g q true n (suc e)) r ≡ []
  entry_lost n e inside none k r = lost g q f after covers sound k (go_at g q true n (suc e)) r (λ s. none (entered_hope n e inside s))

-- and at a place of the search: by sets of the word's letters, and a first set that has the position where it stands
module _ (image masks flags reach : List ℕ) (q : Query) (covers : Covers (grammar_of image) q (feasible_of masks flags)) (reaches : Reaches image q (feasible_of masks flags) (reach_of reach))
    (place : Place) (trail : Trail) (first : ℕ) (at : T (bit first place.surface.letters)) where
  abbrev f : Feasible
  f = feasible_of masks flags

  leading_is : (e : ℕ) → Leads f ((grammar_of image).form e) (λ k. T (after_in image (reach_of reach) e k)) (node_at image place trail).surface.letters
      → Leads f (form_of (entry image e)) (λ k. T (after_in image (reach_of reach) e k)) place.surface.letters
  unfolding grammar_of node_of
  leading_is e s = s

  inside_is : (e : ℕ) → e < (header image).entries → e < (grammar_of image).entries
  unfolding grammar_of
  inside_is e h = h

  entry_barren : (e : ℕ) → e < (header image).entries → (Leads f (form_of (entry image e)) (λ k. T (after_in image (reach_of reach) e k)) place.surface.letters → ⊥)
      → entry_one image q place trail e ≡ []
  entry_barren e inside none =
      given_nil (may_at (grammar_of image) q true (node_at image place trail) (suc e)) _
      (entry_lost (grammar_of image) q f (after_in image (reach_of reach)) covers (reaches_sound image q f (reach_of reach) reaches) (node_at image place trail) e (inside_is e inside)
      (λ s. none (leading_is e s)) (pred (steps_from (node_at image place trail))) (grow true (reading_of trail) (suc e)))

  -- where a list names entries that may open, and all of them that lead on
  module _ (spare : trail.entries < 16) (xs : List ℕ) (rising : Rising 0 (header image).entries xs)
      (others : (e : ℕ) → T (may_enter image q.entries place.last trail.entries e) → (Memᴰ e xs → ⊥) → LeadsOn image masks flags reach first e → ⊥) where
    others_none : (e : ℕ) → e < (header image).entries → (Memᴰ e xs → ⊥) → entry_one image q place trail e ≡ []
    others_none e inside none = go (may_enter image q.entries place.last trail.entries e) refl
      where
        go : (b : Bool) → may_enter image q.entries place.last trail.entries e ≡ b → entry_one image q place trail e ≡ []
        go false m = entry_none_lem image q place trail spare e m
        go true m = entry_barren e inside (λ t. others e (of_true (may_enter image q.entries place.last trail.entries e) m) none (place.surface.letters, (at, t)))

    -- by turns, as a loop goes over the list
    pub survivors_found : flat_map (entry_one image q place trail) (below (header image).entries) ≡ flat_map (λ k. entry_one image q place trail (get_or xs k 0)) (below (length xs))
    survivors_found =
        listed (entry_one image q place trail) (header image).entries xs (record { rising = rising; others = others_none })
        ∙ flat_map_places (entry_one image q place trail) 0 xs
