-- `fill_index` meets its contract: the rows of the rules as they were, and the other rows after them.
use native.Mathlib.Omega.{arith}
use mathlib.Core.Path.{◌∙◌}
use mathlib.Core.List.{List}
use Prim.Native.Nat.{ℕ}
use Rattle.model.specs.Lists.{below, flat_map}
use Rattle.image.specs.Index.{column_row}
use Rattle.tables.proofs.Rows.{columns_part}
use Rattle.index.proofs.Laws.{all_rows}
use Rattle.index.proofs.Parts.{length_bytes, last_part, last_filled}
use Rattle.index.proofs.fill_index.Goals as goal

abbrev columns : List ℕ → List ℕ
columns image = flat_map (column_row image) (below 32)

pub slice_bounds-fill_rest-end : goal.slice_bounds-fill_rest-end
slice_bounds-fill_rest-end c =
    let image = c.args.image.now in
    omega (arith, length_bytes 8192 31232 (columns image) c.args.out.now (columns_part image) c.requires.out_value)

pub fill_rest-requires : goal.fill_rest-requires
fill_rest-requires c =
    let image = c.args.image.now in
    record { laid = c.requires.accepted.laid; out_value = last_part 8192 31232 (columns image) c.args.out.now (columns_part image) c.requires.out_value }

pub returns : goal.returns
returns c =
    let image = c.args.image.now in
    let rest = c.fill_rest.new.out in
    last_filled 8192 31232 (columns image) c.args.out.now (columns_part image) c.requires.out_value rest ∙ all_rows image rest c.fill_rest.ensures
