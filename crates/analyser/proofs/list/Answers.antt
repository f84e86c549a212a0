-- `list` meets its contract: tests 1 to 6 of the image, and then the listing of one that passes them.
use mathlib.Core.Path.{sym, ap, ◌∙◌}
use Rattle.grammar.specs.Answers.{verdict_of}
use Rattle.grammar.proofs.Verdicts.{refused_early}
use Rattle.refusal.proofs.Given.{same_refusal}
use Rattle.rows.specs.Fill.{reply_of}
use Rattle.requests.specs.Request.{request_of}
use Rattle.analyser.proofs.Replies.{image_refused}
use Rattle.analyser.proofs.list.Goals as goal

pub list_tabled-requires : goal.list_tabled-requires
list_tabled-requires c = sym c.check_tables.ensures ∙ ap verdict_of c.in_ok-check_tables.was

pub returns-in_err-check_tables : goal.returns-in_err-check_tables
returns-in_err-check_tables c =
    let a = c.args in
    let both = image_refused a.image.now (request_of a.request a.asked.now) a.out.now _ (sym (refused_early a.image.now _ (sym c.in_err-check_tables.ensures))) in
    record { reply = ap reply_of (same_refusal c.from_residual.result _ c.from_residual.ensures.1) ∙ both.0; bytes = both.1 }
