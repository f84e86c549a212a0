-- `try_search` meets its contract: with a table of one place, which counts and remembers nothing.
use mathlib.Core.Path.{refl}
use native.Mathlib.Omega.{arith}
use Rattle.search.proofs.try_search.Goals as goal

pub from_start-requires : goal.from_start-requires
from_start-requires c =
    record { accepted = c.requires.accepted; index_value = c.requires.index_value; may_be = c.requires.may_be; roomy = c.requires.roomy; by_index = (1, (omega arith, refl)) }
