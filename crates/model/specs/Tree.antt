-- The tree of step lists of a grammar for a query, and the list of all readings that a walk through it makes.
-- That it is the list of all readings, each once, in step order, is `listing` in proofs/Listing.antt, and `plain_listing` in proofs/Endings.antt.
use Rattle.std.specs.Prelude.{ℕ, zero, suc, Bool, true, false, ◌&&◌, not, List, [], ◌∷◌, map, get_or, leb, ltb, eqb}
use Rattle.model.specs.Lists.{below, every, given, within, is_zero}
use Rattle.model.specs.Grammar.{Grammar}
use Rattle.model.specs.Readings.{Reading}
use Rattle.model.specs.Query.{Pattern, Query}
use Rattle.model.specs.Walk.{Machine, walk}

-- one level but the lexical: its letters and nulls so far
pub record Level : Type 0 where
  pub letters : ℕ
  pub nulls : ℕ

-- where the walk stands
pub record Node : Type 0 where
  pub rest : List ℕ  -- the letters of the last entry that are not paired yet
  pub ways : ℕ → Bool  -- the entries that may open next
  pub stop : Bool  -- the path may end here
  pub ended : Bool  -- and has
  pub entries : ℕ  -- so far
  pub pairs : ℕ
  pub nulls : ℕ  -- lexical
  pub surface : Level
  pub spoken : Level
  pub states : List ℕ  -- of rule 0, 1, ..

abbrev pub is_nil : List ℕ → Bool
is_nil [] = true
is_nil (x ∷ xs) = false

-- the next entry opens, or the path ends, as soon as the last letter of the one before is paired
abbrev pub opens : Node → Bool
opens n = is_nil n.rest && not n.ended

-- one side of a pair, 0 the null: may it come next, and what it leaves or makes
abbrev pub spells : List ℕ → ℕ → Bool
spells rest zero = true
spells [] (suc a) = false
spells (x ∷ rest) (suc a) = eqb x (suc a)

abbrev pub left : List ℕ → ℕ → List ℕ
left rest zero = rest
left [] (suc a) = []
left (x ∷ rest) (suc a) = rest

abbrev pub letters_and : ℕ → ℕ → ℕ
letters_and i zero = i
letters_and i (suc a) = suc i

abbrev pub nulls_and : ℕ → ℕ → ℕ
nulls_and i zero = suc i
nulls_and i (suc a) = i

abbrev pub allows_side : Pattern → ℕ → ℕ → Bool
allows_side t i zero = true
allows_side t i (suc a) = t.allows i (suc a)

-- a level, given by the side of each pair, asked for a pattern
module _ (side : ℕ → ℕ) (t : Pattern) where
  abbrev pub line_may : Level → ℕ → Bool
  line_may c p = allows_side t c.letters (side p)

  -- the surface keeps its bounds at every pair
  abbrev pub level_may : Level → ℕ → Bool
  level_may c p = line_may c p && leb (letters_and c.letters (side p)) 32 && leb (nulls_and c.nulls (side p)) 8

  abbrev pub level_go : Level → ℕ → Level
  level_go c p = record { letters = letters_and c.letters (side p); nulls = nulls_and c.nulls (side p) }

  abbrev pub level_ends : Level → Bool
  level_ends c = ltb 0 c.letters && t.may_end c.letters

  -- the spoken line is counted as the surface is, but its counts are looked at only where the reading ends
  abbrev pub line_ends : Level → Bool
  line_ends c = within 1 32 c.letters && leb c.nulls 8 && t.may_end c.letters

-- all rules side by side, by their next and final states
module _ (rules : ℕ) (next : ℕ → ℕ → ℕ → ℕ) (final : ℕ → ℕ → Bool) where
  unfoldable pub step_all : List ℕ → ℕ → List ℕ
  step_all states p = map (λ r. next r (get_or states r 0) p) (below rules)

  unfoldable pub alive : List ℕ → Bool
  alive states = every (λ r. not (is_zero (get_or states r 0))) (below rules)

  -- "The start is state 1", and, by document 02, (a), "the boundary pair is now fed to every rule before the first pair too"
  unfoldable pub begun : ℕ → List ℕ
  begun boundary = step_all (map (λ r. 1) (below rules)) boundary

  -- by the boundary pair to a final state
  unfoldable pub finish : List ℕ → ℕ → Bool
  finish states boundary = every (λ r. let s = next r (get_or states r 0) boundary in not (is_zero s) && final r s) (below rules)

module _ (g : Grammar) (q : Query) where
  -- Each by whether an entry opens. There 0 is the ending of the path, and suc e is entry e.
  unfoldable pub count_at : Bool → Node → ℕ
  count_at true n = suc g.entries
  count_at false n = g.pairs

  unfoldable pub may_at : Bool → Node → ℕ → Bool
  may_at true n zero = n.stop
  may_at true n (suc e) = ltb n.entries 16 && n.ways e && q.entries.allows n.entries e
  may_at false n p =
      let live = alive g.rules g.next g.final (step_all g.rules g.next g.final n.states p) in
      spells n.rest (g.lexical p)
      && ltb n.pairs 40
      && leb (nulls_and n.nulls (g.lexical p)) 8
      && (level_may g.surface q.letters n.surface p && line_may g.spoken q.spoken n.spoken p)
      && live

  unfoldable pub go_at : Bool → Node → ℕ → Node
  go_at true n zero = record {
    rest = n.rest;
    ways = λ e. false;
    stop = false;
    ended = true;
    entries = n.entries;
    pairs = n.pairs;
    nulls = n.nulls;
    surface = n.surface;
    spoken = n.spoken;
    states = n.states;
  }
  go_at true n (suc e) = record {
    rest = g.form e;
    ways = g.follows e;
    stop = g.ends e;
    ended = false;
    entries = suc n.entries;
    pairs = n.pairs;
    nulls = n.nulls;
    surface = n.surface;
    spoken = n.spoken;
    states = n.states;
  }
  go_at false n p = record {
    rest = left n.rest (g.lexical p);
    ways = n.ways;
    stop = n.stop;
    ended = n.ended;
    entries = n.entries;
    pairs = suc n.pairs;
    nulls = nulls_and n.nulls (g.lexical p);
    surface = level_go g.surface q.letters n.surface p;
    spoken = level_go g.spoken q.spoken n.spoken p;
    states = step_all g.rules g.next g.final n.states p;
  }

  unfoldable pub complete : Node → Bool
  complete n =
      is_nil n.rest && n.ended
      && q.entries.may_end n.entries
      && (level_ends g.surface q.letters n.surface && line_ends g.spoken q.spoken n.spoken)
      && finish g.rules g.next g.final n.states g.pairs

  abbrev pub tree : Machine Node
  tree = record { count = λ n. count_at (opens n) n; may = λ n. may_at (opens n) n; go = λ n. go_at (opens n) n; ends = complete }

  unfoldable pub start : Node
  start = record {
    rest = [];
    ways = g.begins;
    stop = false;
    ended = false;
    entries = 0;
    pairs = 0;
    nulls = 0;
    surface = record { letters = 0; nulls = 0 };
    spoken = record { letters = 0; nulls = 0 };
    states = begun g.rules g.next g.final g.pairs;
  }

  -- a step list's entries and pairs
  abbrev pub put : Bool → ℕ → Reading → Reading
  put true zero r = r
  put true (suc e) r = record { path = e ∷ r.path; pairing = r.pairing }
  put false p r = record { path = r.path; pairing = p ∷ r.pairing }

  unfoldable pub reading_at : Node → List ℕ → Reading
  reading_at n [] = record { path = []; pairing = [] }
  reading_at n (x ∷ l) = put (opens n) x (reading_at (go_at (opens n) n x) l)

  -- "the list of all readings (each once, in step order)": of at most 16 entries and 40 pairs, and an ending, so 57 steps; none where a rule fails at the front
  unfoldable pub readings : List Reading
  readings = given (alive g.rules g.next g.final start.states) (map (reading_at start) (walk tree 57 start))
