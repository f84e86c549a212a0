-- The spelling call's answer in document 02's words and numbers, a letter as the code has it, and the answer once the letters are found.
use Rattle.std.specs.Prelude.{ℕ, zero, suc, Option, Some, None, Result, Ok, Err, cond, leb}
use Rattle.model.specs.Beside as beside
use Rattle.refusal.specs.declared.Refusal.{Refusal}
use Rattle.refusal.specs.Numbers.{number_of}

abbrev pub spelling_of : Result ℕ Refusal → beside.Spelling
spelling_of (Ok n) = beside.Spelling.letters n
spelling_of (Err r) = beside.Spelling.refused (number_of r)

-- a letter, where the definitions say 0 for none
abbrev pub if_letter : ℕ → Option ℕ
if_letter zero = None
if_letter (suc a) = Some (suc a)

-- a word of n letters and an output with room for so many: test 24 decides
abbrev pub handed_over : ℕ → ℕ → beside.Spelling
handed_over n room = cond (leb n room) (beside.Spelling.letters n) (beside.Spelling.refused 24)
