-- `analyse_few` meets its contract: the other tests of the image, and of an accepted one the words by the index alone.
use mathlib.Core.Path.{sym, ap, ◌∙◌}
use Rattle.refusal.proofs.Given.{same_refusal}
use Rattle.shares.specs.Words as words
use Rattle.shares.proofs.Replies.{refused_whole, answered_reply}
use Rattle.many.specs.Answers.{many_of}
use Rattle.many.proofs.analyse_few.Goals as goal

pub answer_all-requires : goal.answer_all-requires
answer_all-requires c =
    let had = c.in_ok-h.ensures in
    record { image_value = had.verdict_is; h_value = had.header_is; indexed = had.indexed }

pub returns-in_err-h : goal.returns-in_err-h
returns-in_err-h c =
    let a = c.args in
    let r = refused_whole a.image.now a.words.now a.replies.now a.out.now _ c.in_err-h.ensures in
    record { reply = ap many_of (same_refusal c.from_residual.result _ c.from_residual.ensures.1) ∙ r.0; replies = r.1.0; rows = r.1.1 }

pub returns : goal.returns
returns c =
    let a = c.args in
    record {
      reply = ap words.ManyReply.words c.answer_all.ensures.count ∙ answered_reply a.image.now a.words.now a.replies.now a.out.now c.in_ok-h.ensures.verdict_is;
      replies = c.answer_all.ensures.replies;
      rows = c.answer_all.ensures.rows;
    }
