-- `sum_of_rows` meets its contract: the sum over the columns is the sum over the rows on end.
use native.Mathlib.Omega.{arith}
use mathlib.Core.Path.{◌∙◌}
use Rattle.sum.proofs.Sums.{columns_same, columns_sum}
use Rattle.sum.proofs.sum_of_rows.Goals as goal

pub returns : goal.returns
returns c =
    let block = c.args.block.now in
    let is = c.columns.ensures in
    c.sum_of_columns.ensures ∙ columns_same block is.0 is.1.0 is.1.1 ∙ columns_sum block (omega arith)
