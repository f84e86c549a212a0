-- `check_records` meets its contract: the first that fails of tests 4 to 6.
use mathlib.Core.Bool.{true}
use mathlib.Core.Path.{◌≡◌, sym, ◌∙◌}
use Rattle.model.specs.Refusals.{right_letters, right_pairs, right_tables}
use Rattle.grammar.proofs.Verdicts.{refused_4, refused_5, refused_6, accepted_records}
use Rattle.grammar.proofs.check_records.Goals as goal
use Rattle.grammar.proofs.check_records.Goals.{Else-not-right_letters, Else-not-right_pairs, Else-not-right_tables}

-- what each test that was passed says
letters_right : (c : Else-not-right_letters) → right_letters c.args.image.now ≡ true
letters_right c = sym c.right_letters.ensures ∙ c.if-not-right_letters.false

pairs_right : (c : Else-not-right_pairs) → right_pairs c.args.image.now ≡ true
pairs_right c = sym c.right_pairs.ensures ∙ c.if-not-right_pairs.false

tables_right : (c : Else-not-right_tables) → right_tables c.args.image.now ≡ true
tables_right c = sym c.right_tables.ensures ∙ c.if-not-right_tables.false

pub returns-then-not-right_letters : goal.returns-then-not-right_letters
returns-then-not-right_letters c = refused_4 c.args.image.now (sym c.right_letters.ensures ∙ c.if-not-right_letters.true)

pub returns-then-not-right_pairs : goal.returns-then-not-right_pairs
returns-then-not-right_pairs c =
    refused_5 c.args.image.now (letters_right (goal.at.returns-then-not-right_pairs c).Else-not-right_letters) (sym c.right_pairs.ensures ∙ c.if-not-right_pairs.true)

pub returns-then-not-right_tables : goal.returns-then-not-right_tables
returns-then-not-right_tables c =
    let here = goal.at.returns-then-not-right_tables c in
    refused_6 c.args.image.now (letters_right here.Else-not-right_letters) (pairs_right here.Else-not-right_pairs) (sym c.right_tables.ensures ∙ c.if-not-right_tables.true)

pub returns : goal.returns
returns c =
    accepted_records c.args.image.now (letters_right (goal.at.returns c).Else-not-right_letters) (pairs_right (goal.at.returns c).Else-not-right_pairs) (tables_right c)
