use Rattle.parse.proofs.Fields.{Digits}
use Rattle.parse.proofs.field_value.Given as goal

-- the bytes passed are digits
abbrev pub invariant-loop-b : goal.invariant-loop-b
invariant-loop-b l = Digits l.field l.b-index l.value
