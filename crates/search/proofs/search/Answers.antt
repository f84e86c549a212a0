-- `search` meets its contract: the first search offers all, or gives up; what was given up is searched again, over the rows that it left.
use native.Mathlib.Omega.{arith}
use Rattle.walk.proofs.Giving.{roomy_kept, offered_all, offered_again}
use Rattle.search.proofs.search.Goals as goal

-- nothing was given up
pub returns-then-found-capacity : goal.returns-then-found-capacity
returns-then-found-capacity c = offered_all c.if-found-capacity.true c.try_search-found.ensures

pub search_long-requires : goal.search_long-requires
search_long-requires c =
    record { accepted = c.requires.accepted; index_value = c.requires.index_value; may_be = c.requires.may_be; roomy = roomy_kept c.try_search-found.auto.out c.requires.roomy }

pub returns : goal.returns
returns c =
    offered_again c.requires.roomy.rows_in (omega (arith, c.if-found-capacity.false)) c.try_search-found.ensures c.search_long.ensures
