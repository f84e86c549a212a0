-- The list of all readings as code makes it: the walk carries the reading as far as it has come and hands it over at each end.
use Rattle.std.specs.Prelude.{ℕ, zero, suc, ◌+◌, ◌-◌, Bool, true, false, List, [], ◌∷◌, ◌++◌}
use Rattle.model.specs.Lists.{below, given, flat_map}
use Rattle.model.specs.Grammar.{Grammar}
use Rattle.model.specs.Readings.{Reading}
use Rattle.model.specs.Query.{Query}
use Rattle.rows.specs.Trail.{with_entry, with_pair}
use Rattle.model.specs.Tree.{Node, opens, count_at, may_at, go_at, complete}

-- the ending, an entry or a pair more
abbrev pub grow : Bool → Reading → ℕ → Reading
grow true r zero = r
grow true r (suc e) = with_entry r e
grow false r p = with_pair r p

module _ (g : Grammar) (q : Query) where
  -- what is found from a node in at most k steps, r having been read
  unfoldable pub gather : ℕ → Node → Reading → List Reading
  gather zero n r = given (complete g q n) (r ∷ [])
  gather (suc k) n r =
      given (complete g q n) (r ∷ [])
      ++ flat_map (λ x. let l = gather k (go_at g q (opens n) n x) (grow (opens n) r x) in given (may_at g q (opens n) n x) l) (below (count_at g q (opens n) n))

-- how many steps are left after so many entries and pairs, and the ending where the path has not ended: each step takes one of these
abbrev pub steps_left : Bool → ℕ → ℕ → ℕ
steps_left true entries pairs = (16 - entries) + (40 - pairs)
steps_left false entries pairs = suc ((16 - entries) + (40 - pairs))

-- from a node
unfoldable pub steps_from : Node → ℕ
steps_from n = steps_left n.ended n.entries n.pairs
