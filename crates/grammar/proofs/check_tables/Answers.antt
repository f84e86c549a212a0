-- `check_tables` meets its contract: the first that fails of tests 1 to 6.
use mathlib.Core.Bool.{true}
use mathlib.Core.Path.{◌≡◌, sym, subst, ◌∙◌}
use Rattle.model.specs.Refusals.{right_length, right_checks, right_layout}
use Rattle.model.proofs.Sealing.{right_some}
use Rattle.image.specs.Laid.{Laid}
use Rattle.layout.proofs.Laid.{laid}
use Rattle.grammar.proofs.Verdicts.{refused_1, refused_2, refused_3, records_judged}
use Rattle.grammar.proofs.check_tables.Goals as goal
use Rattle.grammar.proofs.check_tables.Goals.{Else-not-right_checks, Else-not-right_layout, Else-not-right_length}

-- past each test, it holds
length_right : (c : Else-not-right_length) → right_length c.args.image.now ≡ true
unfolding right_length
length_right c = sym c.right_length.ensures ∙ c.if-not-right_length.false

checks_right : (c : Else-not-right_checks) → right_checks c.args.image.now ≡ true
checks_right c = sym c.right_checks.ensures ∙ c.if-not-right_checks.false

layout_right : (c : Else-not-right_layout) → right_layout c.args.image.now ≡ true
layout_right c = sym c.right_layout.ensures ∙ c.if-not-right_layout.false

pub returns-then-not-right_length : goal.returns-then-not-right_length
unfolding right_length
returns-then-not-right_length c = refused_1 c.args.image.now (sym c.right_length.ensures ∙ c.if-not-right_length.true)

pub right_checks-requires : goal.right_checks-requires
right_checks-requires c = length_right c

pub returns-then-not-right_checks : goal.returns-then-not-right_checks
returns-then-not-right_checks c = refused_2 c.args.image.now (length_right (goal.at.returns-then-not-right_checks c).Else-not-right_length) (sym c.right_checks.ensures ∙ c.if-not-right_checks.true)

pub right_layout-requires : goal.right_layout-requires
right_layout-requires c = length_right (goal.at.right_layout-requires c).Else-not-right_length

pub returns-then-not-right_layout : goal.returns-then-not-right_layout
returns-then-not-right_layout c =
    let here = goal.at.returns-then-not-right_layout c in
    refused_3 c.args.image.now (length_right here.Else-not-right_length) (checks_right here.Else-not-right_checks) (sym c.right_layout.ensures ∙ c.if-not-right_layout.true)

pub read_header-requires : goal.read_header-requires
read_header-requires c = right_some c.args.image.now (length_right (goal.at.read_header-requires c).Else-not-right_length)

pub check_records-requires : goal.check_records-requires
check_records-requires c =
    let here = goal.at.check_records-requires c in
    let image = c.args.image.now in
    subst (Laid image) (sym c.read_header.ensures) (laid image (length_right here.Else-not-right_length) (layout_right here.Else-not-right_layout))

pub returns : goal.returns
returns c =
    let here = goal.at.returns c in
    c.check_records.ensures ∙ records_judged c.args.image.now (length_right here.Else-not-right_length) (checks_right here.Else-not-right_checks) (layout_right here.Else-not-right_layout)
