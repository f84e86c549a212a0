use Rattle.std.proofs.Common.{◌≡◌, length}
use Rattle.parse.proofs.Fields.{Read}
use Rattle.parse.proofs.read_line.Given as goal

-- each field passed is a letter more
abbrev pub invariant-loop-field : goal.invariant-loop-field
invariant-loop-field l = (l.letters ≡ length l.yielded) × Read l.line l.initial.word l.word l.letters
