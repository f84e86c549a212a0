-- What sealing, analysis and generation reply, and what they leave in what they were lent, for every image, input and buffer.
use Rattle.std.specs.Prelude.{ℕ, cond, List, [], take, eqb}
use Rattle.model.specs.Blocks.{header, sealed_image}
use Rattle.model.specs.GrammarOf.{grammar_of}
use Rattle.model.specs.Readings.{Reading, steps_by}
use Rattle.model.specs.Query.{Request, query_of}
use Rattle.model.specs.Tree.{readings}
use Rattle.model.specs.Refusals.{Verdict, first_failing, right_length, request_tests}
use Rattle.model.specs.Rows.{Reply, reply_to, row_count, filled}

-- "Sealing uses 1 alone and replies sealed otherwise"
pub data Sealing : Type 0 where
  sealed : Sealing
  refused : ℕ → Sealing

unfoldable pub sealing_reply : List ℕ → Sealing
sealing_reply image = cond (right_length image) sealed (refused 1)

-- "A refusal writes nothing."
unfoldable pub after_sealing : List ℕ → List ℕ
after_sealing image = cond (right_length image) (sealed_image image) image

-- a listing's reply and the rows that it hands back, by the verdict of its tests, the rows of its buffer, and all readings
abbrev pub reply_after : Verdict → ℕ → List Reading → Reply
reply_after Verdict.accepted rows l = reply_to rows l
reply_after (Verdict.refused k) rows l = Reply.refused k

abbrev pub rows_after : Verdict → ℕ → List Reading → List Reading
rows_after Verdict.accepted rows l = take rows l
rows_after (Verdict.refused k) rows l = []

-- "the list of all readings follows the image's form": of form 1 document 01's step lists, of another those with endings
unfoldable pub steps_of : List ℕ → Reading → List ℕ
steps_of image = steps_by (eqb (header image).form 1) (grammar_of image)

module _ (image : List ℕ) (request : Request) where
  unfoldable pub request_verdict : Verdict
  request_verdict = first_failing (request_tests image request)

  -- "the list of all readings" that answer the request
  unfoldable pub all_readings : List Reading
  all_readings = readings (grammar_of image) (query_of request)

  unfoldable pub listing_reply : ℕ → Reply
  listing_reply rows = reply_after request_verdict rows all_readings

  unfoldable pub listing_rows : ℕ → List Reading
  listing_rows rows = rows_after request_verdict rows all_readings

  -- "Both list readings in step order into a lent byte buffer": every byte of it afterwards
  unfoldable pub after_listing : List ℕ → List ℕ
  after_listing buffer = filled buffer (listing_rows (row_count buffer))
