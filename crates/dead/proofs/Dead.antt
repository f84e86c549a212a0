-- A blank table remembers nothing; where nothing is found after one trail nothing is found after another as long.
use Prim.Native.Nat.{ℕ, ◌+◌, ◌*◌}
use native.Mathlib.Omega.{arith}
use mathlib.Core.Path.{◌≡◌, refl, sym, ap, ◌∙◌}
use mathlib.Core.List.{List, [], ◌∷◌, map}
use lib.ListN.{get_or, drop, replicate, length-replicate, get_or-replicate}
use lib.Seq.{get_or-take, get_or-drop}
use Rattle.model.specs.Lists.{part}
use Rattle.model.specs.Grammar.{Grammar}
use Rattle.model.specs.Readings.{Reading}
use Rattle.model.specs.Query.{Query}
use Rattle.model.specs.Walk.{walk}
use Rattle.model.specs.Tree.{Node, tree}
use Rattle.model.specs.GrammarOf.{grammar_of}
use Rattle.rows.specs.declared.Trail.{Trail}
use Rattle.rows.specs.Trail.{reading_of}
use Rattle.listing.specs.declared.place.Place.{Place}
use Rattle.listing.specs.Gather.{gather, steps_from}
use Rattle.listing.specs.Places.{node_of}
use Rattle.listing.specs.Search.{found_at}
use Rattle.listing.proofs.Gather.{gather_walk}
use Rattle.dead.specs.Dead.{DeadAt, width_of, Remembered}

map_none : {A B : Type 0} (f : A → B) (l : List A) → map f l ≡ [] → l ≡ []
map_none f [] e = refl
map_none f (x ∷ l) e = cc

-- whether nothing is gathered does not depend on what has been read
gather_none : (g : Grammar) (q : Query) (k : ℕ) (n : Node) (r s : Reading) → gather g q k n r ≡ [] → gather g q k n s ≡ []
gather_none g q k n r s e =
    let none : walk (tree g q) k n ≡ [] = map_none _ (walk (tree g q) k n) (sym (gather_walk g q k n r) ∙ e) in
    gather_walk g q k n s ∙ ap (map _) none

module _ (image : List ℕ) (q : Query) where
  -- a search that found nothing found it for every trail as long
  pub dead_again : (place : Place) (trail : Trail) → found_at image q place trail ≡ [] → DeadAt image q place trail.entries trail.pairs
  unfolding found_at
  dead_again place trail none other e n =
      let node = node_of image place trail.entries trail.pairs in
      rw (e, n) (gather_none (grammar_of image) q (steps_from node) node (reading_of trail) _ none)

  -- the first number of a blank slot is 0
  pub none_remembered : (n : ℕ) → Remembered image q (replicate n 0)
  unfolding Remembered
  none_remembered n _ k inside place entries pairs e =
      let w = width_of image in
      let blank = replicate {A = ℕ} n 0 in
      let first : get_or (part w blank k) 0 0 ≡ pairs + 1 = ap (λ (l : List ℕ). get_or l 0 0) e.is in
      let zero : get_or (part w blank k) 0 0 ≡ 0 = get_or-take w (drop (w * k) blank) 0 0 (omega arith) ∙ get_or-drop (w * k) blank 0 0 ∙ get_or-replicate n (w * k + 0) 0 0 (omega (arith, length-replicate {A = ℕ} n 0)) in
      absurd (omega arith)
