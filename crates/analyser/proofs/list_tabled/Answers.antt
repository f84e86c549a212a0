-- `list_tabled` meets its contract: the other tests of the image, and then the listing of an accepted one.
use mathlib.Core.Path.{sym, ap, ◌∙◌}
use Rattle.refusal.proofs.Given.{same_refusal}
use Rattle.rows.specs.Fill.{reply_of}
use Rattle.requests.specs.Request.{request_of}
use Rattle.analyser.proofs.Replies.{image_refused}
use Rattle.analyser.proofs.list_tabled.Goals as goal

pub list-requires : goal.list-requires
list-requires c =
    let had = c.in_ok-h.ensures in
    record { image_value = had.verdict_is; h_value = had.header_is; indexed = had.indexed }

pub returns-in_err-h : goal.returns-in_err-h
returns-in_err-h c =
    let a = c.args in
    let both = image_refused a.image.now (request_of a.request a.asked.now) a.out.now _ c.in_err-h.ensures in
    record { reply = ap reply_of (same_refusal c.from_residual.result _ c.from_residual.ensures.1) ∙ both.0; bytes = both.1 }
