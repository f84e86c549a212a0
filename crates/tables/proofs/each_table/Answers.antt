-- `each_table` meets its contract: every table passed is right.
use borrow.Author.Rules.{rules}
use mathlib.Core.Path.{◌≡◌, sym, ap, ◌∙◌}
use mathlib.Core.List.{List}
use Prim.Native.Nat.{ℕ}
use Rattle.model.specs.RuleTables.{is_table}
use Rattle.model.proofs.Lists.{every_fails}
use Rattle.sets.proofs.Lists.{fails}
use Rattle.tables.proofs.each_table.Invariants.{right}
use Rattle.tables.proofs.each_table.Goals as goal
use Rattle.tables.proofs.each_table.Goals.{After-is_table}

-- the test of the table read in a turn
module _ (c : After-is_table) where
  tested : c.is_table.result ≡ right c.args.image.now c.args.h.letters c.args.h.sets c.loop-r.r
  tested = c.is_table.ensures ∙ ap (λ (t : List ℕ). is_table t c.args.h.letters c.args.h.sets) c.table_at.ensures.0

pub returns-then-not-is_table : goal.returns-then-not-is_table
returns-then-not-is_table c =
    let f = right c.args.image.now c.args.h.letters c.args.h.sets in
    sym (every_fails f c.args.h.rules c.loop-r.r c.loop-r-test.true (fails c.is_table.result (tested (goal.at.returns-then-not-is_table c).After-is_table) (search rules)))
