-- A place of the code's search as a node of the model's tree, and what holds of it.
use Rattle.std.specs.Prelude.{ℕ, suc, ◌-◌, ◌<◌, ◌≤◌, Bool, true, false, ◌&&◌, cond, ◌≡◌, ◌⊎◌, List, length, take, drop, T, ltb, eqb, Option, MatchOption}
use Rattle.model.specs.Lists.{every, within}
use Rattle.model.specs.Blocks.{header}
use Rattle.model.specs.GrammarOf.{grammar_of}
use Rattle.model.specs.Query.{Query}
use Rattle.model.specs.Tree.{Node, may_at, go_at}
use Rattle.rules.specs.Live.{Live}
use Rattle.listing.specs.declared.place.Place.{Place}
use Rattle.listing.specs.Levels.{level_of, Bounded}

-- the entry that is open: these two where none is yet, and where the path has ended
abbrev pub root : ℕ
root = 65535

abbrev pub ended : ℕ
ended = 65534

-- the entries that may come next
unfoldable pub ways_after : List ℕ → ℕ → ℕ → Bool
ways_after image last = cond (eqb last root) (grammar_of image).begins (cond (eqb last ended) (λ e. false) ((grammar_of image).follows last))

-- whether the path may end
unfoldable pub stops_after : List ℕ → ℕ → Bool
stops_after image last = ltb last ended && (grammar_of image).ends last

-- the letters left
abbrev pub rest_of : List ℕ → Place → List ℕ
rest_of image p = take (p.to - p.from) (drop p.from image)

-- the place with another entry open
abbrev pub with_last : Place → ℕ → Place
with_last p last = record { from = p.from; to = p.to; last = last; nulls = p.nulls; surface = p.surface; states = p.states }

-- with so many entries and pairs read
unfoldable pub node_of : List ℕ → Place → ℕ → ℕ → Node
node_of image p entries pairs =
    record {
      rest = rest_of image p;
      ways = ways_after image p.last;
      stop = stops_after image p.last;
      ended = eqb p.last ended;
      entries = entries;
      pairs = pairs;
      nulls = p.nulls;
      surface = level_of p.surface;
      spoken = level_of p.surface;  -- a two-level grammar's: the same line
      states = take (header image).rules p.states;
    }

pub record Standing (image : List ℕ) (p : Place) : Type 0 where
  pub in_order : p.from ≤ p.to
  pub in_image : p.to ≤ length image
  pub letters_right : T (every (within 2 (header image).letters) (rest_of image p))
  pub last_right : (p.last ≡ root) ⊎ ((p.last ≡ ended) ⊎ (p.last < (header image).entries))
  pub nulls_in : p.nulls ≤ 8
  pub surface_in : Bounded p.surface
  pub states_live : Live image p.states

-- pair p may not be taken here
abbrev pub Shut : List ℕ → Query → Place → ℕ → Type 0
Shut image q place p = (n m : ℕ) → m < 40 → may_at (grammar_of image) q false (node_of image place n m) p ≡ false

-- pair p may be taken, and the place after it
pub record Took (image : List ℕ) (q : Query) (place : Place) (p : ℕ) (after : Place) : Type 0 where
  pub may : (n m : ℕ) → m < 40 → may_at (grammar_of image) q false (node_of image place n m) p ≡ true
  pub node_is : (n m : ℕ) → node_of image after n (suc m) ≡ go_at (grammar_of image) q false (node_of image place n m) p
  pub stands : Standing image after

-- the place after pair p, or none where it may not be taken
abbrev pub TookIf : List ℕ → Query → Place → ℕ → Option Place → Type 0
TookIf image q place p after = MatchOption after (Shut image q place p) (Took image q place p)

-- the path can only end: it may, and no entry may come next
pub record OnlyStops (image : List ℕ) (last : ℕ) : Type 0 where
  pub stops : stops_after image last ≡ true
  pub none_next : (e : ℕ) → ways_after image last e ≡ false
