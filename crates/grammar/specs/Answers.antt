-- The answers of the image check and of the entry view's companion in document 01's words and numbers.
use Rattle.std.specs.Prelude.{List, [], ◌∷◌, ℕ, Result, Ok, Err}
use Rattle.model.specs.Refusals as refusals
use Rattle.model.specs.Refusals.{first_failing, right_length, right_checks, right_layout, right_letters, right_pairs, right_tables, right_entries, right_forms}
use Rattle.model.specs.Beside as beside
use Rattle.refusal.specs.declared.Refusal.{Refusal}
use Rattle.refusal.specs.Numbers.{number_of}

abbrev pub verdict_of : Result (Unit {0}) Refusal → refusals.Verdict
verdict_of (Ok _) = refusals.Verdict.accepted
verdict_of (Err r) = refusals.Verdict.refused (number_of r)

abbrev pub form_reply_of : Result ℕ Refusal → beside.FormReply
form_reply_of (Ok n) = beside.FormReply.letters n
form_reply_of (Err r) = beside.FormReply.refused (number_of r)

-- tests 1 to 6; of these, 4 to 6; and 8 and then 14
unfoldable pub tables_verdict : List ℕ → refusals.Verdict
tables_verdict image = first_failing ((1, right_length image) ∷ (2, right_checks image) ∷ (3, right_layout image) ∷ (4, right_letters image) ∷ (5, right_pairs image) ∷ (6, right_tables image) ∷ [])

unfoldable pub records_verdict : List ℕ → refusals.Verdict
records_verdict image = first_failing ((4, right_letters image) ∷ (5, right_pairs image) ∷ (6, right_tables image) ∷ [])

unfoldable pub lexicon_verdict : List ℕ → refusals.Verdict
lexicon_verdict image = first_failing ((8, right_entries image) ∷ (14, right_forms image) ∷ [])
