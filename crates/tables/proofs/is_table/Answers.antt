-- `is_table` meets its contract: the counts, and then each part of its bytes.
use borrow.Author.Rules.{rules}
use mathlib.Core.Bool.{Bool, ◌&&◌}
use mathlib.Core.Path.{◌≡◌, sym, ◌∙◌}
use Rattle.model.specs.RuleTables.{is_table}
use Rattle.model.proofs.Booleans.{left_true, left_false}
use Rattle.sets.proofs.Lists.{fails, passes}
use Rattle.tables.proofs.Bounds.{sides_read, marks_read, nexts_read, rest_read, counts_fail, parts_are}
use Rattle.tables.proofs.is_table.Goals as goal
use Rattle.tables.proofs.is_table.Goals.{Joined-are_at_most, then-are_sides, else-are_sides, then-are_at_most, else-are_at_most}

-- by the counts that were read, the three parts before the unused bytes
module _ (c : Joined-are_at_most) where
  abbrev sides : Bool
  sides = sides_read c.args.t.now c.args.letters c.args.sets c.byte_at-columns.result c.byte_at-states.result

  abbrev marks : Bool
  marks = marks_read c.args.t.now c.args.letters c.args.sets c.byte_at-columns.result c.byte_at-states.result

  abbrev nexts : Bool
  nexts = nexts_read c.args.t.now c.args.letters c.args.sets c.byte_at-columns.result c.byte_at-states.result

  abbrev rest : Bool
  rest = rest_read c.args.t.now c.args.letters c.args.sets c.byte_at-columns.result c.byte_at-states.result

  two : c.if-are_sides.value ≡ (sides && marks)
  two =
      elim c.if-are_sides.branch [
        | then-are_sides w ↦ w.value-is ∙ w.are_at_most.ensures ∙ sym (left_true sides marks (sym c.are_sides.ensures ∙ w.if-are_sides.true))
        | else-are_sides w ↦ w.value-is ∙ w.if-are_sides.false ∙ sym (left_false sides marks (sym c.are_sides.ensures ∙ w.if-are_sides.false))
      ]

  three : c.if-are_at_most.value ≡ (sides && marks && nexts)
  three =
      elim c.if-are_at_most.branch [
        | then-are_at_most w ↦ w.value-is ∙ w.are_at_most-then-are_at_most.ensures ∙ sym (left_true (sides && marks) nexts (sym two ∙ w.if-are_at_most.true))
        | else-are_at_most w ↦ w.value-is ∙ w.if-are_at_most.false ∙ sym (left_false (sides && marks) nexts (sym two ∙ w.if-are_at_most.false))
      ]

  decided : (sides && marks && nexts && rest) ≡ is_table c.args.t.now c.args.letters c.args.sets
  decided =
      parts_are c.args.t.now c.args.letters c.args.sets c.byte_at-columns.result c.byte_at-states.result c.byte_at-columns.ensures.0 c.byte_at-states.ensures.0
      c.requires (passes c.right_counts.result c.right_counts.ensures (search rules))

pub returns-then-not-right_counts : goal.returns-then-not-right_counts
returns-then-not-right_counts c =
    let a = c.args in
    sym (counts_fail a.t.now a.letters a.sets _ _ c.byte_at-columns.ensures.0 c.byte_at-states.ensures.0 (fails c.right_counts.result c.right_counts.ensures (search rules)))

pub returns-then-are_at_most-2 : goal.returns-then-are_at_most-2
returns-then-are_at_most-2 c =
    let j = (goal.at.returns-then-are_at_most-2 c).Joined-are_at_most in
    c.is_blank.ensures ∙ sym (left_true (sides j && marks j && nexts j) (rest j) (sym (three j) ∙ c.if-are_at_most-2.true)) ∙ decided j

pub returns-else-are_at_most-2 : goal.returns-else-are_at_most-2
returns-else-are_at_most-2 c =
    let j = (goal.at.returns-else-are_at_most-2 c).Joined-are_at_most in
    c.if-are_at_most-2.false ∙ sym (left_false (sides j && marks j && nexts j) (rest j) (sym (three j) ∙ c.if-are_at_most-2.false)) ∙ decided j
