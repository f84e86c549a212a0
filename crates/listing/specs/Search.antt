-- What the search finds from a place with a trail behind it.
use Rattle.std.specs.Prelude.{ℕ, suc, pred, true, List, [], ◌∷◌}
use Rattle.model.specs.Lists.{given}
use Rattle.model.specs.GrammarOf.{grammar_of}
use Rattle.model.specs.Readings.{Reading}
use Rattle.model.specs.Query.{Query}
use Rattle.model.specs.Tree.{Node, may_at, go_at}
use Rattle.rows.specs.declared.Trail.{Trail}
use Rattle.rows.specs.Trail.{reading_of}
use Rattle.listing.specs.declared.place.Place.{Place}
use Rattle.listing.specs.Gather.{grow, gather, steps_from}
use Rattle.listing.specs.Places.{node_of}

abbrev pub node_at : List ℕ → Place → Trail → Node
node_at image place trail = node_of image place trail.entries trail.pairs

-- the first of the letters left, 0 where there is none
abbrev pub head_of : List ℕ → ℕ
head_of [] = 0
head_of (x ∷ xs) = x

-- all that is found in the steps that are left
unfoldable pub found_at : List ℕ → Query → Place → Trail → List Reading
found_at image q place trail = let n = node_at image place trail in gather (grammar_of image) q (steps_from n) n (reading_of trail)

-- what entry e finds, where entries may open
abbrev pub entry_one : List ℕ → Query → Place → Trail → ℕ → List Reading
entry_one image q place trail e =
    let g = grammar_of image in
    let n = node_at image place trail in
    given (may_at g q true n (suc e)) (gather g q (pred (steps_from n)) (go_at g q true n (suc e)) (grow true (reading_of trail) (suc e)))
