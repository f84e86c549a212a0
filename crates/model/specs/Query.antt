-- What a listing is asked for: which path, which word, and how it is spoken. Analysis and generation are two cases of it.
use Rattle.std.specs.Prelude.{ℕ, suc, Bool, true, ◌&&◌, List, [], ◌∷◌, length, get_or, ltb, eqb}
use Rattle.model.specs.Lists.{numbers}
use Rattle.model.specs.Grammar.{Grammar}
use Rattle.model.specs.Readings.{Reading, word, speech}

-- what is asked of a list of numbers: may this number stand at this place, and may the list end at this length
pub record Pattern : Type 0 where
  pub allows : ℕ → ℕ → Bool
  pub may_end : ℕ → Bool

-- a list that begins at place i
abbrev pub fits : Pattern → ℕ → List ℕ → Bool
fits t i [] = t.may_end i
fits t i (x ∷ xs) = t.allows i x && fits t (suc i) xs

abbrev pub exactly : List ℕ → Pattern
exactly xs = record { allows = λ i x. ltb i (length xs) && eqb (get_or xs i 0) x; may_end = λ n. eqb n (length xs) }

abbrev pub anything : Pattern
anything = record { allows = λ i x. true; may_end = λ n. true }

pub record Query : Type 0 where
  pub entries : Pattern
  pub letters : Pattern  -- of the surface
  pub spoken : Pattern

unfoldable pub answers : Grammar → Query → Reading → Bool
answers g q r = fits q.entries 0 r.path && (fits q.letters 0 (word g r) && fits q.spoken 0 (speech g r))

-- "Analysis takes a word as letter bytes, generation a path as bytes, two to an entry number."
pub data Request : Type 0 where
  analysis generation : List ℕ → Request

unfoldable pub entry_numbers : List ℕ → List ℕ
entry_numbers bytes = numbers bytes

-- "A path's readings are those, with that path, of every word of 1-32 letters."
unfoldable pub query_of : Request → Query
query_of (analysis word) = record { entries = anything; letters = exactly word; spoken = anything }
query_of (generation path) = record { entries = exactly (entry_numbers path); letters = anything; spoken = anything }
