-- `read_byte` meets its contract: another byte joins the line, the line's end gives its answer or waits.
use native.Mathlib.Omega.{arith}
use Rattle.print.proofs.Text.{put_same}
use Rattle.answers.proofs.Reading.{end_grown, end_text}
use Rattle.answers.proofs.input.read_byte.Goals as goal

-- its answer is put
pub returns-in-Some : goal.returns-in-Some
returns-in-Some c =
    let a = c.args in
    let answer = c.in-Some.ensures in
    record {
      grown = λ l begun. end_grown a.run.now.image.now l a.b a.line.now c.if-b-ne10.false;
      kept_few = omega arith;
      text = λ l begun. put_same (end_text a.run.now.image.now l a.b c.if-b-ne10.false) (answer.0 l begun.bytes);
      end_near = answer.1;
    }
