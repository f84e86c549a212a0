-- `judge` meets its contract: tests 1 to 6 of the image, and then the judgement over one that passes them.
use mathlib.Core.Path.{sym, ap, ◌∙◌}
use Rattle.grammar.specs.Answers.{verdict_of}
use Rattle.grammar.proofs.Verdicts.{refused_early}
use Rattle.refusal.proofs.Given.{same_refusal}
use Rattle.judge.specs.Answers.{judgement_of}
use Rattle.judge.proofs.Judgements.{image_refused}
use Rattle.judge.proofs.judge.Goals as goal

pub judge_tabled-requires : goal.judge_tabled-requires
judge_tabled-requires c = sym c.check_tables.ensures ∙ ap verdict_of c.in_ok-check_tables.was

pub returns-in_err-check_tables : goal.returns-in_err-check_tables
returns-in_err-check_tables c =
    let a = c.args in
    ap judgement_of (same_refusal c.from_residual.result _ c.from_residual.ensures.1)
    ∙ image_refused a.image.now a.path.now a.pairing.now _ (sym (refused_early a.image.now _ (sym c.in_err-check_tables.ensures)))
