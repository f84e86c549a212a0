-- The laws by which the search's two loops find what is found at a place.
use Prim.Native.Nat.{ℕ, zero, suc, pred, ◌<◌, ◌≤◌}
use native.Mathlib.Omega.{arith}
use mathlib.Core.Bool.{Bool, true, false, ◌&&◌, ◌||◌, true≢false}
use mathlib.Core.Path.{◌≡◌, refl, sym, ap, ap₂, ◌∙◌}
use mathlib.Core.List.{List, [], ◌∷◌, ◌++◌, append-nil}
use lib.ListN.{get_or}
use lib.Dec.{T, ltb, eqb}
use borrow.Author.Tests.{lt-ltb, le-ltb, eqb-false, eqb-true, ne_eqb, eq-eqb}
use Rattle.model.specs.Lists.{below, given, flat_map, is_zero}
use Rattle.model.specs.Blocks.{header}
use Rattle.model.specs.RuleTables.{pairs, boundary_pair}
use Rattle.model.specs.Grammar.{Grammar}
use Rattle.model.specs.GrammarOf.{grammar_of}
use Rattle.model.specs.Readings.{Reading}
use Rattle.model.specs.Query.{Query}
use Rattle.model.specs.Tree.{Node, opens, spells, may_at, go_at, complete}
use Rattle.model.proofs.Booleans.{of_true}
use Rattle.image.specs.Index.{candidates}
use Rattle.rows.specs.declared.Trail.{Trail}
use Rattle.rows.specs.Trail.{reading_of}
use Rattle.listing.specs.declared.place.Place.{Place}
use Rattle.listing.specs.Gather.{grow, gather, steps_left, steps_from}
use Rattle.listing.specs.Places.{ended, stops_after, rest_of, node_of, OnlyStops}
use Rattle.listing.specs.Opening.{may_enter}
use Rattle.listing.specs.Search.{node_at, head_of, found_at, entry_one}
use Rattle.listing.proofs.Gather.{branch, gather_open, gather_pair, gather_last, steps_from_stop, steps_from_enter, steps_from_pair}
use Rattle.listing.proofs.Loops.{flat_map_only, below_low}
use Rattle.listing.proofs.Unasked.{none_given, unasked}

all_empty : {B : Type 0} (f : ℕ → List B) (n : ℕ) → ((x : ℕ) → f x ≡ []) → flat_map f (below n) ≡ []
all_empty f n e = below_low f n n (λ x h. e x) (omega arith)

same_none : {B : Type 0} (b : Bool) (l : List B) → b ≡ false → given b l ≡ []
same_none b l e = rw e refl

-- with 40 pairs read none may be taken
pub full_shut : (g : Grammar) (q : Query) (n : Node) → 40 ≤ n.pairs → (x : ℕ) → may_at g q false n x ≡ false
unfolding may_at
full_shut g q n h x = rw (le-ltb n.pairs 40 h) (none (spells n.rest (g.lexical x)) _ _ _)
  where
    none : (a b c d : Bool) → (a && false && b && c && d) ≡ false
    none true b c d = refl
    none false b c d = refl

module _ (image : List ℕ) (q : Query) (place : Place) (trail : Trail) where
  abbrev g : Grammar
  g = grammar_of image

  abbrev n : Node
  n = node_at image place trail

  abbrev r : Reading
  r = reading_of trail

  -- with none of its pairs to spare, only what ends here
  pair_shut : 40 ≤ trail.pairs → (x : ℕ) → may_at g q false n x ≡ false
  unfolding node_of
  pair_shut h x = full_shut g q n h x

  -- what is complete here stands first, whatever comes after it
  pub pair_begins : opens n ≡ false → (rest : List Reading) × (found_at image q place trail ≡ given (complete g q n) (r ∷ []) ++ rest)
  unfolding found_at
  pair_begins o = go (steps_from n)
    where
      go : (k : ℕ) → (rest : List Reading) × (gather g q k n r ≡ given (complete g q n) (r ∷ []) ++ rest)
      go zero = ([], gather_last g q n r ∙ sym (append-nil (given (complete g q n) (r ∷ []))))
      go (suc k) = (flat_map (branch g q k n r false) (below g.pairs), gather_pair g q k n r o)

  pub pair_full : opens n ≡ false → 40 ≤ trail.pairs → found_at image q place trail ≡ given (complete g q n) (r ∷ [])
  unfolding found_at
  pair_full o h = go (steps_from n)
    where
      go : (k : ℕ) → gather g q k n r ≡ given (complete g q n) (r ∷ [])
      go zero = gather_last g q n r
      go (suc k) =
          gather_pair g q k n r o
          ∙ ap (λ (l : List Reading). given (complete g q n) (r ∷ []) ++ l) (all_empty (branch g q k n r false) g.pairs (λ x. same_none (may_at g q false n x) (gather g q k (go_at g q false n x) (grow false r x)) (pair_shut h x)))
          ∙ append-nil (given (complete g q n) (r ∷ []))

  -- what is found where the path ends here
  abbrev pub stop_one : List Reading
  stop_one = branch g q (pred (steps_from n)) n r true 0

  -- a path that may not end, and an entry that may not open, find nothing
  pub stop_none : stops_after image place.last ≡ false → stop_one ≡ []
  unfolding may_at node_of
  stop_none e = same_none (stops_after image place.last) _ e

  -- nor does one that may end, where what is asked of it does not let it
  pub stop_unasked : (stops_after image place.last && q.entries.may_end trail.entries) ≡ false → stop_one ≡ []
  unfolding may_at go_at node_of
  stop_unasked e = go (stops_after image place.last) refl
    where
      go : (b : Bool) → stops_after image place.last ≡ b → stop_one ≡ []
      go false f = stop_none f
      go true f = none_given (stops_after image place.last) (unasked g q (pred (steps_from n)) (go_at g q true n 0) r refl (ap (λ (b : Bool). b && q.entries.may_end trail.entries) (sym f) ∙ e))

  entry_may : trail.entries < 16 → (e : ℕ) (b : Bool) → may_enter image q.entries place.last trail.entries e ≡ b → may_at g q true n (suc e) ≡ b
  unfolding may_at node_of
  entry_may spare e b may = rw (lt-ltb trail.entries 16 spare) may

  pub entry_none_lem : trail.entries < 16 → (e : ℕ) → may_enter image q.entries place.last trail.entries e ≡ false → entry_one image q place trail e ≡ []
  entry_none_lem spare e may = same_none (may_at g q true n (suc e)) _ (entry_may spare e false may)

  -- with no entry to spare, none opens
  full_none : 16 ≤ trail.entries → (e : ℕ) → entry_one image q place trail e ≡ []
  unfolding may_at node_of
  full_none h e = same_none (may_at g q true n (suc e)) _ (rw (le-ltb trail.entries 16 h) refl)

  shut_none : OnlyStops image place.last → (e : ℕ) → entry_one image q place trail e ≡ []
  unfolding may_at node_of
  shut_none only e = same_none (may_at g q true n (suc e)) _ (rw (only.none_next e) (go (ltb trail.entries 16) (q.entries.allows trail.entries e)))
    where
      go : (a b : Bool) → (a && false && b) ≡ false
      go true b = refl
      go false b = refl

  entries_few : trail.entries < 16 → n.entries < 16
  unfolding node_of
  entries_few spare = spare

  entries_are : g.entries ≡ (header image).entries
  unfolding grammar_of
  entries_are = refl

  module _ (o : opens n ≡ true) where
    pub open_all : found_at image q place trail ≡ stop_one ++ flat_map (entry_one image q place trail) (below (header image).entries)
    unfolding found_at
    open_all =
        let k = pred (steps_from n) in
        let s : steps_from n ≡ suc k = steps_from_stop g q n o ∙ ap (λ (m : ℕ). suc (pred m)) (sym (steps_from_stop g q n o)) in
        ap (λ (m : ℕ). gather g q m n r) s ∙ gather_open g q k n r o ∙ ap (λ (m : ℕ). stop_one ++ flat_map (entry_one image q place trail) (below m)) entries_are

    pub open_full : 16 ≤ trail.entries → found_at image q place trail ≡ stop_one
    open_full h = open_all ∙ ap (λ (l : List Reading). stop_one ++ l) (all_empty (entry_one image q place trail) (header image).entries (full_none h)) ∙ append-nil stop_one

    -- and by the code's calls
    pub stop_one_lem : stops_after image place.last ≡ true → (next : Place) → node_at image next trail ≡ go_at g q true n 0 → found_at image q next trail ≡ stop_one
    unfolding found_at may_at node_of
    stop_one_lem t next e =
        let s : steps_from (go_at g q true n 0) ≡ pred (steps_from n) = ap pred (sym (steps_from_stop g q n o)) in
        ap (λ (m : Node). gather g q (steps_from m) m r) e
        ∙ ap (λ (k : ℕ). gather g q k (go_at g q true n 0) r) s
        ∙ ap (λ (b : Bool). given b (gather g q (pred (steps_from n)) (go_at g q true n 0) r)) (sym t)

    -- where the path can only end, that is all
    pub only_stop : OnlyStops image place.last → (next : Place) → node_at image next trail ≡ go_at g q true n 0 → found_at image q next trail ≡ found_at image q place trail
    only_stop only next e =
        stop_one_lem only.stops next e
        ∙ sym (open_all ∙ ap (λ (l : List Reading). stop_one ++ l) (all_empty (entry_one image q place trail) (header image).entries (shut_none only)) ∙ append-nil stop_one)

    pub entry_one_lem : (spare : trail.entries < 16) (e : ℕ) → may_enter image q.entries place.last trail.entries e ≡ true → (next : Place) (longer : Trail) → node_at image next longer ≡ go_at g q true n (suc e) → reading_of longer ≡ grow true r (suc e) → found_at image q next longer ≡ entry_one image q place trail e
    unfolding found_at
    entry_one_lem spare e may next longer f h =
        let s : steps_from (go_at g q true n (suc e)) ≡ pred (steps_from n) = ap pred (sym (steps_from_enter g q n e o (entries_few spare))) in
        ap₂ (λ (m : Node) (x : Reading). gather g q (steps_from m) m x) f h
        ∙ ap (λ (k : ℕ). gather g q k (go_at g q true n (suc e)) (grow true r (suc e))) s
        ∙ ap (λ (b : Bool). given b (gather g q (pred (steps_from n)) (go_at g q true n (suc e)) (grow true r (suc e)))) (sym (entry_may spare e true may))

or_false : (b c : Bool) → (b || c) ≡ false → c ≡ false
or_false true c e = absurd (true≢false e)
or_false false c e = e

or_right : (b c : Bool) → b ≡ false → (b || c) ≡ true → c ≡ true
or_right true c f e = absurd (true≢false f)
or_right false c f e = e

-- a pair spells on where its lexical side is the null or the first letter left
pub spells_not : (rest : List ℕ) (x : ℕ) → (is_zero x || eqb x (head_of rest)) ≡ false → spells rest x ≡ false
spells_not rest zero e = absurd (true≢false e)
spells_not [] (suc a) e = refl
spells_not (y ∷ rest) (suc a) e = ne_eqb y (suc a) (λ f. eqb-false (suc a) y (or_false (is_zero (suc a)) (eqb (suc a) y) e) (sym f))

pub spells_so : (rest : List ℕ) (x : ℕ) → (is_zero x || eqb x (head_of rest)) ≡ true → T (spells rest x)
spells_so rest zero e = tt
spells_so [] (suc a) e =
    let z : suc a ≡ 0 = eqb-true (suc a) 0 (or_right (is_zero (suc a)) (eqb (suc a) 0) (ne_eqb (suc a) 0 (λ h. omega arith)) e) in
    absurd (omega arith)
spells_so (y ∷ rest) (suc a) e =
    let same : suc a ≡ y = eqb-true (suc a) y (or_right (is_zero (suc a)) (eqb (suc a) y) (ne_eqb (suc a) 0 (λ h. omega arith)) e) in
    of_true (eqb y (suc a)) (eq-eqb y (suc a) (sym same))

-- at any node where no entry opens
module _ (image : List ℕ) (q : Query) (n : Node) where
  -- a pair finds nothing if its lexical side is neither the null nor the next letter
  pair_apart : (k : ℕ) (r : Reading) (p : ℕ) → (is_zero (get_or (pairs image) p boundary_pair).lexical || eqb (get_or (pairs image) p boundary_pair).lexical (head_of n.rest)) ≡ false → branch (grammar_of image) q k n r false p ≡ []
  unfolding may_at grammar_of
  pair_apart k r p e = rw (spells_not n.rest (get_or (pairs image) p boundary_pair).lexical e) refl

  pairs_counted : (grammar_of image).pairs ≡ (header image).pairs
  unfolding grammar_of
  pairs_counted = refl

  -- so the next letter's candidates find all
  pub gather_candidates : (k : ℕ) (r : Reading) → opens n ≡ false → gather (grammar_of image) q (suc k) n r ≡ given (complete (grammar_of image) q n) (r ∷ []) ++ flat_map (branch (grammar_of image) q k n r false) (candidates image (head_of n.rest))
  unfolding candidates
  gather_candidates k r o =
      let f = branch (grammar_of image) q k n r false in
      gather_pair (grammar_of image) q k n r o
      ∙ ap (λ (l : List Reading). given (complete (grammar_of image) q n) (r ∷ []) ++ l)
      (ap (λ (m : ℕ). flat_map f (below m)) pairs_counted
      ∙ flat_map_only f (λ p. is_zero (get_or (pairs image) p boundary_pair).lexical || eqb (get_or (pairs image) p boundary_pair).lexical (head_of n.rest)) (below (header image).pairs) (pair_apart k r))

-- what one pair finds
abbrev pub pair_one : List ℕ → Query → Place → Trail → ℕ → List Reading
pair_one image q place trail p = branch (grammar_of image) q (pred (steps_from (node_at image place trail))) (node_at image place trail) (reading_of trail) false p

module _ (image : List ℕ) (q : Query) (place : Place) (trail : Trail) (spare : trail.pairs < 40) where
  pair_steps : steps_from (node_at image place trail) ≡ suc (pred (steps_from (node_at image place trail)))
  unfolding steps_from node_of
  pair_steps = go (eqb place.last ended)
    where
      go : (ended : Bool) → steps_left ended trail.entries trail.pairs ≡ suc (pred (steps_left ended trail.entries trail.pairs))
      go true = omega arith
      go false = refl

  -- a pair that may not be taken finds nothing
  pub pair_skip : (p : ℕ) → may_at (grammar_of image) q false (node_at image place trail) p ≡ false → pair_one image q place trail p ≡ []
  pair_skip p e = same_none (may_at (grammar_of image) q false (node_at image place trail) p) _ e

  pub pair_all : opens (node_at image place trail) ≡ false → found_at image q place trail ≡ given (complete (grammar_of image) q (node_at image place trail)) (reading_of trail ∷ []) ++ flat_map (pair_one image q place trail) (candidates image (head_of (rest_of image place)))
  unfolding found_at node_of
  pair_all o =
      let n = node_at image place trail in
      ap (λ (m : ℕ). gather (grammar_of image) q m n (reading_of trail)) pair_steps
      ∙ gather_candidates image q n (pred (steps_from n)) (reading_of trail) o

  pairs_few : (node_at image place trail).pairs < 40
  unfolding node_of
  pairs_few = spare

  -- and by the code's call
  pub pair_one_lem : (p : ℕ) (next : Place) (longer : Trail) → may_at (grammar_of image) q false (node_at image place trail) p ≡ true → node_at image next longer ≡ go_at (grammar_of image) q false (node_at image place trail) p → reading_of longer ≡ grow false (reading_of trail) p → found_at image q next longer ≡ pair_one image q place trail p
  unfolding found_at
  pair_one_lem p next longer may e f =
      let g = grammar_of image in
      let n = node_at image place trail in
      let s : steps_from (go_at g q false n p) ≡ pred (steps_from n) = ap pred (sym (steps_from_pair g q n p pairs_few)) in
      ap₂ (λ (m : Node) (x : Reading). gather g q (steps_from m) m x) e f
      ∙ ap (λ (k : ℕ). gather g q k (go_at g q false n p) (grow false (reading_of trail) p)) s
      ∙ ap (λ (b : Bool). given b (gather g q (pred (steps_from n)) (go_at g q false n p) (grow false (reading_of trail) p))) (sym may)
