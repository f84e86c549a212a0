-- `check` meets its contract: the first that fails of tests 1 to 8 and then 14.
use mathlib.Core.Path.{◌≡◌, sym, ap, subst, ◌∙◌}
use mathlib.Core.List.{List}
use Prim.Native.Nat.{ℕ}
use Rattle.model.specs.Blocks.{header}
use Rattle.model.specs.Refusals.{accepted}
use Rattle.model.proofs.Booleans.{of_true}
use Rattle.image.specs.Header.{header_of}
use Rattle.image.specs.Laid.{Laid}
use Rattle.grammar.specs.Answers.{verdict_of, tables_verdict}
use Rattle.refusal.proofs.Given.{same_refusal}
use Rattle.grammar.proofs.Verdicts.{laid_some, refused_early, early_passed, refused_7, lexicon_judged}
use Rattle.grammar.proofs.check.Goals as goal
use Rattle.grammar.proofs.check.Goals.{After-read_header-h, In_ok-check_tables}

-- in the arm of an image that passes tests 1 to 6
passed : (c : In_ok-check_tables) → tables_verdict c.args.image.now ≡ accepted
passed c = sym c.check_tables.ensures ∙ ap verdict_of c.in_ok-check_tables.was

module _ (c : After-read_header-h) where
  abbrev image : List ℕ
  image = c.args.image.now

  read_laid : Laid image (header_of c.read_header-h.result)
  read_laid = subst (Laid image) (sym c.read_header-h.ensures) (early_passed image (sym c.check_tables.ensures ∙ ap verdict_of c.in_ok-check_tables.was)).0

pub read_header-h-requires : goal.read_header-h-requires
read_header-h-requires c = let image = c.args.image.now in laid_some image (header image) (early_passed image (passed c)).0

pub right_columns-requires : goal.right_columns-requires
right_columns-requires c = record { laid = read_laid c; t = of_true _ (early_passed (image c) (passed (goal.at.right_columns-requires c).In_ok-check_tables)).2 }

pub returns-then-not-right_columns : goal.returns-then-not-right_columns
returns-then-not-right_columns c =
    refused_7 (image (goal.at.returns-then-not-right_columns c).After-read_header-h) (passed (goal.at.returns-then-not-right_columns c).In_ok-check_tables) (sym c.if-not-right_columns.ensures)

pub check_lexicon-requires : goal.check_lexicon-requires
check_lexicon-requires c =
    let read = (goal.at.check_lexicon-requires c).After-read_header-h in
    let tables = passed (goal.at.check_lexicon-requires c).In_ok-check_tables in
    record { laid = read_laid read; t = of_true _ (early_passed (image read) tables).1 }

pub returns-in_err-check_tables : goal.returns-in_err-check_tables
returns-in_err-check_tables c =
    ap verdict_of (same_refusal c.from_residual.result _ c.from_residual.ensures.1) ∙ refused_early c.args.image.now _ (sym c.in_err-check_tables.ensures)

pub returns : goal.returns
returns c =
    c.check_lexicon.ensures ∙ lexicon_judged (image (goal.at.returns c).After-read_header-h) (passed (goal.at.returns c).In_ok-check_tables) (sym c.if-not-right_columns.ensures)
