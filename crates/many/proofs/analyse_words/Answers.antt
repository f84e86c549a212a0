-- `analyse_words` meets its contract: tests 1 to 6 of the image, and then its words.
use mathlib.Core.Path.{sym, ap, ◌∙◌}
use Rattle.grammar.specs.Answers.{verdict_of}
use Rattle.grammar.proofs.Verdicts.{refused_early}
use Rattle.refusal.proofs.Given.{same_refusal}
use Rattle.many.specs.Answers.{many_of}
use Rattle.shares.proofs.Replies.{refused_whole}
use Rattle.many.proofs.analyse_words.Goals as goal

pub analyse_few-requires : goal.analyse_few-requires
analyse_few-requires c = sym c.check_tables.ensures ∙ ap verdict_of c.in_ok-check_tables.was

pub analyse_many-requires : goal.analyse_many-requires
analyse_many-requires c = sym c.check_tables.ensures ∙ ap verdict_of c.in_ok-check_tables.was

pub returns-in_err-check_tables : goal.returns-in_err-check_tables
returns-in_err-check_tables c =
    let a = c.args in
    let r = refused_whole a.image.now a.words.now a.replies.now a.out.now _ (sym (refused_early a.image.now _ (sym c.in_err-check_tables.ensures))) in
    record { reply = ap many_of (same_refusal c.from_residual.result _ c.from_residual.ensures.1) ∙ r.0; replies = r.1.0; rows = r.1.1 }
