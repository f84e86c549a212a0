-- `read_end` meets its contract: a line begun gets its answer, which does not wait where nothing stands before it.
use Rattle.print.proofs.Text.{put_same}
use Rattle.answers.proofs.Reading.{last_some, last_told}
use Rattle.answers.proofs.input.read_end.Goals as goal

pub returns : goal.returns
returns c =
    let a = c.args in
    let told = last_told a.run.now.image.now a.out.now c.answer-answered.new.out _ c.answer-answered.result c.unwrap_or.result c.unwrap_or.ensures c.answer-answered.ensures in
    (λ l begun. put_same (last_some a.run.now.image.now a.line.now a.kept l begun c.if-kept-eq0.false) (told.0 l begun.bytes), told.1)
