-- `answer` meets its contract: unread, the refusal, or the word's answer.
use native.Mathlib.Omega.{arith}
use mathlib.Core.Path.{◌≡◌, sym, ap, ◌∙◌}
use lib.ListN.{take}
use Rattle.model.specs.Lines as lines
use Rattle.model.specs.Lines.{line_of, printed_line}
use Rattle.print.proofs.Text.{put_same}
use Rattle.parse.specs.Fields.{line_with}
use Rattle.answers.proofs.Reading.{first_long, first_whole, refused_line, word_line}
use Rattle.answers.proofs.line.answer.Goals as goal
use Rattle.answers.proofs.line.answer.Goals.{In-Some}

pub returns-then-line-gt255 : goal.returns-then-line-gt255
returns-then-line-gt255 c =
    let a = c.args in
    let told = c.put_unread.ensures in
    (λ l e. put_same (ap (printed_line a.run.now.image.now) (sym (first_long a.line.now l e c.if-line-gt255.true))) (told.0 a.run.now.image.now), omega (arith, told.1))

pub returns-in_default : goal.returns-in_default
returns-in_default c =
    let a = c.args in
    let told = c.put_unread-in_default.ensures in
    let unread : lines.unread ≡ line_of a.line.now = sym (ap (line_with c.read_line.new.word) c.in_default.is) ∙ c.read_line.ensures.word in
    (λ l e. put_same (ap (printed_line a.run.now.image.now) (unread ∙ ap line_of (first_whole a.line.now l e c.if-line-gt255.false))) (told.0 a.run.now.image.now), omega (arith, told.1))

-- the letters that were read are the line's
letters_read : (c : In-Some) → lines.letters (take c.in-Some.n c.read_line.new.word) ≡ line_of c.args.line.now
letters_read c = sym (ap (line_with c.read_line.new.word) c.in-Some.is) ∙ c.read_line.ensures.word

pub returns-in-Err : goal.returns-in-Err
returns-in-Err c =
    let a = c.args in
    let answer = c.put_reply.ensures in
    let refusal = refused_line a.run.now.image.now (take c.in-Some.n c.read_line.new.word) _ (rw c.in-Err.is at c.requires.had) in
    let word = letters_read (goal.at.returns-in-Err c).In-Some in
    (λ l e. put_same (refusal ∙ ap (printed_line a.run.now.image.now) (word ∙ ap line_of (first_whole a.line.now l e c.if-line-gt255.false))) answer.0, omega (arith, answer.1))

pub answer_word-requires-clause-prepared : goal.answer_word-requires-clause-prepared
answer_word-requires-clause-prepared c = rw c.in-Ok.is at c.requires.had

pub returns-in-Ok : goal.returns-in-Ok
returns-in-Ok c =
    let a = c.args in
    let word = letters_read (goal.at.returns-in-Ok c).In-Some in
    word_line a.run.now.image.now a.out.now _ a.at _ a.line.now (λ l e. word ∙ ap line_of (first_whole a.line.now l e c.if-line-gt255.false)) c.answer_word.result c.answer_word.ensures
