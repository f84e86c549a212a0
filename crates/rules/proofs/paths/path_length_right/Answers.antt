-- `path_length_right` meets its contract: an entry number has two bytes.
use mathlib.Core.Path.{sym, ap, ◌∙◌}
use mathlib.Core.Bool.{◌&&◌}
use Prim.Native.Nat.{ℕ, ◌%◌}
use lib.ListN.{length}
use lib.Dec.{eqb}
use Rattle.model.specs.Lists.{within}
use Rattle.rules.proofs.PathLaws.{length_entry_numbers}
use Rattle.rules.proofs.paths.path_length_right.Goals as goal

pub returns : goal.returns
returns c =
    let path = c.args.path.now in
    c.right_count.ensures ∙ sym (ap (λ (n : ℕ). eqb (length path % 2) 0 && within 1 16 n) (length_entry_numbers path))
