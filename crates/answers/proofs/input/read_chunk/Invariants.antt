-- The bytes passed are read: the line begun, and the text put.
use Rattle.answers.proofs.Reading.{Progress}
use Rattle.answers.proofs.input.read_chunk.Given as goal

abbrev pub invariant-loop-i : goal.invariant-loop-i
invariant-loop-i l =
    Progress l.run.image.now l.chunk l.initial.line l.initial.out l.at l.fn.from.kept l.fn.from.end l.line l.out l.i l.reached.kept l.reached.end
