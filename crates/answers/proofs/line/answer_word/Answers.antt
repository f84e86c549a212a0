-- `answer_word` meets its contract: the reply, and then the rows handed back; or nothing, where the listing is given up.
use native.Mathlib.Omega.{arith}
use mathlib.Core.Path.{◌≡◌, ap, ap₂, ◌∙◌}
use mathlib.Core.List.{List, ◌++◌}
use Prim.Native.Nat.{ℕ, ◌≤◌}
use lib.ListN.{length}
use Rattle.model.specs.Query.{analysis}
use Rattle.model.specs.Refusals.{accepted, image_verdict}
use Rattle.model.specs.Demand.{reply_rows}
use Rattle.model.specs.Lines.{printed_reply}
use Rattle.model.specs.Calls.{listing_reply}
use Rattle.rows.specs.Fill.{reply_of}
use Rattle.print.specs.Text.{printed_rows}
use Rattle.print.proofs.Text.{put_same, put_then}
use Rattle.answers.proofs.Listed.{handed, handed_told, handed_few, handed_rows, handed_text, line_text, rows_lent}
use Rattle.answers.proofs.line.answer_word.Goals as goal
use Rattle.answers.proofs.line.answer_word.Goals.{After-told_rows-n}

-- the image is accepted
accepts : (c : After-told_rows-n) → image_verdict c.args.run.now.image.now ≡ accepted
accepts c = c.requires.prepared.verdict_is

-- the listing, where it is given, replies this
replied : (c : After-told_rows-n) → let a = c.args in reply_of c.in_ok-reply.reply ≡ listing_reply a.run.now.image.now (analysis a.word.now) 64
replied c =
    let a = c.args in
    let listed = c.in_ok-reply.ensures.listed in
    listed.0 ∙ ap (listing_reply a.run.now.image.now (analysis a.word.now)) (rows_lent a.run.now.image.now a.word.now (accepts c) a.rows.now _ c.told-rows listed.1)

-- and so many rows are told
counted : (c : After-told_rows-n) → c.told_rows-n.result ≡ length (handed c.args.run.now.image.now c.args.word.now (accepts c))
counted c = c.told_rows-n.ensures ∙ ap reply_rows (replied c) ∙ handed_told c.args.run.now.image.now c.args.word.now (accepts c)

few : (c : After-told_rows-n) → c.told_rows-n.result ≤ 64
few c = omega (arith, counted c, handed_few c.args.run.now.image.now c.args.word.now (accepts c))

pub put_reply-reply_end-requires : goal.put_reply-reply_end-requires
put_reply-reply_end-requires c = (omega (arith, c.told_rows-n.ensures, few (goal.at.put_reply-reply_end-requires c).After-told_rows-n), omega arith)

pub put_rows-requires : goal.put_rows-requires
put_rows-requires c =
    let a = c.args in
    let reply = c.put_reply-reply_end in
    let at = (goal.at.put_rows-requires c).After-told_rows-n in
    let h = handed_rows a.run.now.image.now a.word.now (accepts at) a.rows.now _ c.told-rows c.in_ok-reply.ensures.listed.1 in (
      record {
        inside = omega (arith, few at, c.list_word.auto.rows);
        each = λ j l. h j (omega (arith, l, counted at));
      },
      omega (arith, few at, reply.ensures.1, reply.ensures.0.same_length),
    )

pub returns : goal.returns
returns c =
    let a = c.args in
    let reply = c.put_reply-reply_end in
    let rows = c.put_rows in
    let at = (goal.at.returns c).After-told_rows-n in
    let shown = ap (printed_rows _) (counted at) ∙ handed_text a.run.now.image.now a.word.now (accepts at) a.rows.now _ c.told-rows c.in_ok-reply.ensures.listed.1 in
    let text = ap₂ (λ (x y : List ℕ). x ++ y) (ap printed_reply (replied at)) shown ∙ line_text a.run.now.image.now a.word.now (accepts at) in
    (put_same text (put_then reply.ensures.0 rows.ensures.0), omega (arith, rows.ensures.1, reply.ensures.1, few at))
