-- Nodes of the search from which nothing is found, and what it is for a table to hold such nodes alone.
use Rattle.std.specs.Prelude.{ℕ, ◌+◌, ◌*◌, ◌-◌, ◌/◌, ◌%◌, ◌<◌, ◌≤◌, Bool, false, ◌&&◌, cond, ◌≡◌, List, [], ◌∷◌, length, get_or, take, drop, ltb, eqb}
use Rattle.model.specs.Lists.{below, any, part}
use Rattle.model.specs.Blocks.{header}
use Rattle.model.specs.Lexicon.{in_lexicon}
use Rattle.model.specs.GrammarOf.{grammar_of}
use Rattle.model.specs.Query.{Query}
use Rattle.rules.specs.Paths.{in_some}
use Rattle.rows.specs.declared.Trail.{Trail}
use Rattle.listing.specs.declared.place.Place.{Place}
use Rattle.listing.specs.Places.{ended, ways_after, stops_after, rest_of}
use Rattle.listing.specs.Search.{found_at}
use Rattle.dead.specs.declared.Left.{Left}

-- nothing is found from this place after so many entries and pairs, whichever they are
abbrev pub DeadAt : List ℕ → Query → Place → ℕ → ℕ → Type 0
DeadAt image q place entries pairs = (trail : Trail) → trail.entries ≡ entries → trail.pairs ≡ pairs → found_at image q place trail ≡ []

-- What is left of the entry that is open is three numbers, of which the first two tell three cases apart.
-- a letter is left: from where to where the letters stand, and the entry; the first number is less than the second
abbrev pub letters_left : Place → Left
letters_left place = record { from = place.from; to = place.to; last = place.last }

-- no letter is left: the entry that is open counts by its ways on alone, which decide what may come next; the first number is more than the second
abbrev pub none_left : ℕ → Left
none_left next = record { from = 1; to = 0; last = next }

-- where it has several ways on, and none to a lexicon past the forty-fifth: their digits, in three numbers of which the first is 32768 at least
abbrev pub set_left : ℕ → Bool → Left
set_left bits stop = record { from = 32768 + bits / 32768 % 32768; to = bits % 32768; last = 2 * (bits / 32768 / 32768) + cond stop 1 0 }

abbrev pub set_by : Left → ℕ
set_by l = l.to + 32768 * (l.from - 32768) + 1073741824 * (l.last / 2)

-- no letter is left, and no entry is open, yet or any more: which of the two it is; the first number is the second
abbrev pub none_open : ℕ → Left
none_open last = record { from = 0; to = 0; last = last }

module _ (image : List ℕ) where
  -- what a node has of the entry that is open, by what is left: the letters
  unfoldable pub rest_by : Left → List ℕ
  rest_by l = cond (ltb l.from l.to) (take (l.to - l.from) (drop l.from image)) []

  -- the ways on in one number: 255 where the path can only end, a lexicon where it can only go on with that one, and 256 and the entry where neither that nor a set says it
  unfoldable pub follows_by : ℕ → ℕ → Bool
  follows_by n f = cond (ltb n 256) (any (λ x. eqb n x && in_lexicon image x f) (below (header image).lexicons)) ((grammar_of image).follows (n - 256) f)

  unfoldable pub ends_by : ℕ → Bool
  ends_by n = cond (ltb n 256) (eqb n 255) ((grammar_of image).ends (n - 256))

  unfoldable pub ways_by : Left → ℕ → Bool
  ways_by l = cond (ltb l.to l.from) (cond (ltb l.from 32768) (follows_by l.last) (in_some image (header image).lexicons (set_by l))) (ways_after image l.last)

  unfoldable pub stop_by : Left → Bool
  stop_by l = cond (ltb l.to l.from) (cond (ltb l.from 32768) (ends_by l.last) (eqb (l.last % 2) 1)) (stops_after image l.last)

  unfoldable pub ended_by : Left → Bool
  ended_by l = cond (ltb l.to l.from) false (eqb l.last ended)

  -- a place's node has just that
  pub record Tells (place : Place) (l : Left) : Type 0 where
    pub rest_is : rest_of image place ≡ rest_by l
    pub ways_is : (f : ℕ) → ways_after image place.last f ≡ ways_by l f
    pub stop_is : stops_after image place.last ≡ stop_by l
    pub ended_is : eqb place.last ended ≡ ended_by l

-- how many numbers a node has
abbrev pub width_of : List ℕ → ℕ
width_of image = 8 + (header image).rules

-- the numbers of a node: all that decides what is found from it, the rules' states last. The first is never 0, so a blank slot is no node's
abbrev pub key_by : List ℕ → Left → Place → ℕ → ℕ → List ℕ
key_by image left place entries pairs =
    (pairs + 1) ∷ entries ∷ left.from ∷ left.to ∷ left.last ∷ place.nulls ∷ place.surface.letters ∷ place.surface.nulls ∷ take (header image).rules place.states

pub record KeyOf (image : List ℕ) (place : Place) (entries pairs : ℕ) (key : List ℕ) : Type 0 where
  pub left : Left
  pub tells : Tells image place left
  pub is : key ≡ key_by image left place entries pairs

-- nothing is found from any node whose numbers stand in a slot of the table, which is cut into slots as wide as a node has numbers. A table of fewer
-- than 40 places, as many as a node has numbers at most, counts as one without slots
unfoldable pub Remembered : List ℕ → Query → List ℕ → Type 0
Remembered image q table =
    40 ≤ length table → (k : ℕ) → width_of image * k + width_of image ≤ length table
    → (place : Place) (entries pairs : ℕ) → KeyOf image place entries pairs (part (width_of image) table k) → DeadAt image q place entries pairs

-- each of the first w numbers of a key fits a place of the table
unfoldable pub Narrow : ℕ → List ℕ → Type 0
Narrow w key = (k : ℕ) → k < w → get_or key k 0 < 65536
