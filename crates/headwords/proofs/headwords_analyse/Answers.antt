-- `headwords_analyse` meets its contract: the reply's number is in range, since a reply has at most as many rows as the buffer.
use native.Mathlib.Omega.{arith}
use mathlib.Core.Path.{ap, ◌∙◌}
use Rattle.model.specs.Query.{analysis}
use Rattle.model.specs.Rows.{row_count, reply_number}
use Rattle.model.specs.Demand.{reply_rows}
use Rattle.analyser.proofs.Replies.{listing_rows_lem}
use Rattle.headwords.proofs.headwords_analyse.Goals as goal

pub reply_number-requires : goal.reply_number-requires
reply_number-requires c =
    let a = c.args in
    omega (arith, listing_rows_lem a.image.now (analysis a.word.now) (row_count a.out.now), ap reply_rows c.analyse.ensures.reply, c.well_formed.1.1.0.0)

pub returns : goal.returns
returns c = let call = c.analyse in record { reply = c.reply_number.ensures ∙ ap reply_number call.ensures.reply; bytes = call.ensures.bytes }
