-- `right_tables` meets its contract: the sets, and then the tables.
use mathlib.Core.Bool.{Bool}
use mathlib.Core.List.{List}
use mathlib.Core.Path.{sym, ◌∙◌}
use Prim.Native.Nat.{ℕ}
use Rattle.model.specs.Lists.{below, every}
use Rattle.model.specs.RuleTables.{letter_sets, is_set, table, is_table}
use Rattle.model.proofs.Booleans.{left_true, left_false}
use Rattle.image.specs.Header.{header_of}
use Rattle.tables.proofs.Laws.{tables_read}
use Rattle.tables.proofs.right_tables.Goals as goal

abbrev sets_right : List ℕ → ℕ → Bool
sets_right image letters = every (is_set letters) (letter_sets image)

abbrev each_right : List ℕ → ℕ → ℕ → ℕ → Bool
each_right image letters sets rules = every (λ r. is_table (table image r) letters sets) (below rules)

pub returns-then-right_sets : goal.returns-then-right_sets
returns-then-right_sets c =
    let image = c.args.image.now in
    let h = c.args.h in
    c.each_table.ensures
    ∙ sym (left_true (sets_right image h.letters) (each_right image h.letters h.sets h.rules) (sym c.right_sets.ensures ∙ c.if-right_sets.true))
    ∙ tables_read image (header_of h) c.requires

pub returns-else-right_sets : goal.returns-else-right_sets
returns-else-right_sets c =
    let image = c.args.image.now in
    let h = c.args.h in
    c.if-right_sets.false
    ∙ sym (left_false (sets_right image h.letters) (each_right image h.letters h.sets h.rules) (sym c.right_sets.ensures ∙ c.if-right_sets.false))
    ∙ tables_read image (header_of h) c.requires
