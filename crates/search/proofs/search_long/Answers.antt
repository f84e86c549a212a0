-- `search_long` meets its contract: a search with slots does not give up.
use mathlib.Core.Path.{refl}
use mathlib.Core.Logic.{⊎_elim}
use native.Mathlib.Omega.{arith}
use Prim.Native.Nat.{ℕ}
use lib.ListN.{length-replicate}
use Rattle.search.proofs.search_long.Goals as goal

pub from_start-requires : goal.from_start-requires
from_start-requires c =
    record { accepted = c.requires.accepted; index_value = c.requires.index_value; may_be = c.requires.may_be; roomy = c.requires.roomy; by_index = (20480, (omega arith, refl)) }

pub returns : goal.returns
returns c = ⊎_elim (λ e. e) (λ g. absurd (omega (arith, g.few, length-replicate {A = ℕ} 20480 0))) c.from_start.ensures
