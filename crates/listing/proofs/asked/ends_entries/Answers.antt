-- `ends_entries` meets its contract.
use mathlib.Core.Path.{refl, ap, sym}
use lib.Dec.{eqb}
use lib.ListN.{length}
use Prim.Native.Nat.{◌*◌, ◌/◌}
use Rattle.model.specs.Lists.{number}
use Rattle.model.specs.Query.{entry_numbers}
use Rattle.model.proofs.Lists.{length_map_below}
use Rattle.listing.specs.Asked.{path_pattern}
use Rattle.listing.proofs.asked.ends_entries.Goals as goal

pub returns-in-Exactly : goal.returns-in-Exactly
unfolding path_pattern entry_numbers
returns-in-Exactly c = let path = c.args.path.now in rw c.in-Exactly.is (ap (eqb c.args.n) (sym (length_map_below (λ i. number path (2 * i)) (length path / 2))))

pub returns-in-Anything : goal.returns-in-Anything
unfolding path_pattern
returns-in-Anything c = rw c.in-Anything.is refl
