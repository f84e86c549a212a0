-- The judge's answer in document 01's words and numbers.
use Rattle.std.specs.Prelude.{ℕ, Bool, true, false, List, ◌++◌, Result, Ok, Err}
use Rattle.model.specs.GrammarOf.{grammar_of}
use Rattle.model.specs.Readings.{is_reading}
use Rattle.model.specs.Refusals.{first_failing, path_tests, pairing_tests}
use Rattle.model.specs.Beside as beside
use Rattle.model.specs.Beside.{judgement_after}
use Rattle.judge.specs.Reading.{judged_reading}
use Rattle.refusal.specs.declared.Refusal.{Refusal}
use Rattle.refusal.specs.Numbers.{number_of}

abbrev pub judgement_of : Result Bool Refusal → beside.Judgement
judgement_of (Ok true) = beside.Judgement.holds
judgement_of (Ok false) = beside.Judgement.fails
judgement_of (Err r) = beside.Judgement.refused (number_of r)

-- on an accepted image: tests 11 to 13, and the reading
unfoldable pub judged_accepted : List ℕ → List ℕ → List ℕ → beside.Judgement
judged_accepted image path pairing = judgement_after (first_failing (path_tests image path ++ pairing_tests image pairing)) (is_reading (grammar_of image) (judged_reading path pairing))
