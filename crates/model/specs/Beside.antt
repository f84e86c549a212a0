-- Document 01, "Beside the listings": the judge, the entry view and its companion; and document 02, (m): the spelling call. (The reply's number in C is in
-- Rows, the line program in Lines.)
use Rattle.std.specs.Prelude.{ℕ, ◌+◌, Bool, true, false, List, [], ◌++◌, length, take, drop}
use Rattle.model.specs.Blocks.{header, record_start}
use Rattle.model.specs.Lexicon.{entry, form_length}
use Rattle.model.specs.GrammarOf.{grammar_of}
use Rattle.model.specs.Readings.{is_reading}
use Rattle.model.specs.Query.{entry_numbers}
use Rattle.model.specs.Spelling.{word_spelled}
use Rattle.model.specs.Refusals.{Verdict, first_failing, judge_tests, view_tests, spelling_tests}

pub data Judgement : Type 0 where
  holds fails : Judgement
  refused : ℕ → Judgement

abbrev pub judgement_after : Verdict → Bool → Judgement
judgement_after Verdict.accepted true = holds
judgement_after Verdict.accepted false = fails
judgement_after (Verdict.refused k) b = Judgement.refused k

-- "The judge takes path and pairing (one byte a pair) and replies holds or fails: holds exactly for a reading of the word it spells,
-- so a spelled word of 0 or over 32 letters fails."
unfoldable pub judged : List ℕ → List ℕ → List ℕ → Judgement
judged image path pairing = judgement_after (first_failing (judge_tests image path pairing)) (is_reading (grammar_of image) (record { path = entry_numbers path; pairing = pairing }))

pub data FormReply : Type 0 where
  letters : ℕ → FormReply
  refused : ℕ → FormReply

-- where the letters of an entry's form stand in the image
unfoldable pub form_start : List ℕ → ℕ → ℕ
form_start image e = record_start (header image) 6 e + 1

abbrev pub view_after : Verdict → List ℕ → List ℕ
view_after Verdict.accepted form = form
view_after (Verdict.refused k) form = []

abbrev pub form_reply_after : Verdict → ℕ → FormReply
form_reply_after Verdict.accepted n = letters n
form_reply_after (Verdict.refused k) n = FormReply.refused k

-- "The entry view hands back the letters of an entry's form as they stand in the image; after a refusal, or for an empty form, the empty part."
unfoldable pub viewed : List ℕ → ℕ → List ℕ
viewed image e = view_after (first_failing (view_tests image e)) (take (form_length (entry image e)) (drop (form_start image e) image))

-- "A companion call on the same image and entry replies the form's length or the refusal."
unfoldable pub form_reply : List ℕ → ℕ → FormReply
form_reply image e = form_reply_after (first_failing (view_tests image e)) (form_length (entry image e))

-- "Add a spelling call: code points, two bytes each, become letter numbers .. The reply is the word's length"
pub data Spelling : Type 0 where
  letters : ℕ → Spelling
  refused : ℕ → Spelling

abbrev pub spelling_after : Verdict → ℕ → Spelling
spelling_after Verdict.accepted n = Spelling.letters n
spelling_after (Verdict.refused k) n = Spelling.refused k

-- letters at the front of a buffer, of which "output bytes past it keep their values"; "A refusal writes nothing."
abbrev pub written_after : Verdict → List ℕ → List ℕ → List ℕ
written_after Verdict.accepted word out = word ++ drop (length word) out
written_after (Verdict.refused k) word out = out

module _ (image points : List ℕ) where
  unfoldable pub spelling_verdict : ℕ → Verdict
  spelling_verdict room = first_failing (spelling_tests image points room)

  unfoldable pub spelling_reply : ℕ → Spelling
  spelling_reply room = spelling_after (spelling_verdict room) (length (word_spelled image points))

  -- every byte of the lent output afterwards
  unfoldable pub after_spelling : List ℕ → List ℕ
  after_spelling out = written_after (spelling_verdict (length out)) (word_spelled image points) out
