-- Many words in one call: what it replies, and every byte of both buffers, as plain analysis word by word gives them.
use Rattle.std.specs.Prelude.{ℕ, zero, suc, ◌*◌, ◌/◌, ◌%◌, min, cond, List, [], ◌∷◌, ◌++◌, length, take, drop, leb}
use Rattle.model.specs.Lists.{below, flat_map, part, byte}
use Rattle.model.specs.Query.{analysis}
use Rattle.model.specs.Refusals.{Verdict, image_verdict}
use Rattle.model.specs.Rows.{Reply, row_count, reply_number}
use Rattle.model.specs.Calls.{listing_reply, after_listing}

-- "words are records of 33 bytes (a length byte, then 32 letter bytes)"; "the record's first letters"
abbrev pub word_of : List ℕ → List ℕ
word_of asked = take (byte asked 0) (drop 1 asked)

-- "the number n of words is the whole records, or the whole 8-byte places of `replies`, whichever is fewer"
abbrev pub word_count : ℕ → ℕ → ℕ
word_count words replies = min (words / 33) (replies / 8)

-- "written low byte first"
abbrev pub low_first : ℕ → ℕ → List ℕ
low_first zero n = []
low_first (suc k) n = n % 256 ∷ low_first k (n / 256)

-- one word: "the reply .. as plain analysis of the record's first letters with that share as its buffer gives it, refusals 9 and 10 included (a length byte
-- over 32: 9)", and the bytes of its share
module _ (image asked : List ℕ) where
  unfoldable pub record_reply : ℕ → Reply
  record_reply rows = cond (leb (byte asked 0) 32) (listing_reply image (analysis (word_of asked)) rows) (Reply.refused 9)

  unfoldable pub after_record : List ℕ → List ℕ
  after_record share = cond (leb (byte asked 0) 32) (after_listing image (analysis (word_of asked)) share) share

-- what stands at place i of `replies`, and in share i of the rows, afterwards, where each word has so many rows
abbrev pub place_at : List ℕ → List ℕ → ℕ → ℕ → List ℕ
place_at image words rows i = low_first 8 (reply_number (record_reply image (part 33 words i) rows))

abbrev pub share_at : List ℕ → List ℕ → ℕ → List ℕ → ℕ → List ℕ
share_at image words rows buffer i = after_record image (part 33 words i) (part (116 * rows) buffer i)

-- n parts of width w, one after the other over the front of a buffer; the bytes past them keep their values
abbrev pub laid_over : ℕ → ℕ → (ℕ → List ℕ) → List ℕ → List ℕ
laid_over w n f buffer = flat_map f (below n) ++ drop (w * n) buffer

-- "Image refusals (1 to 8, 14) refuse the whole call and write nothing; otherwise the reply is 4n + 1."
pub data ManyReply : Type 0 where
  words : ℕ → ManyReply
  refused : ℕ → ManyReply

abbrev pub many_after : Verdict → ℕ → ManyReply
many_after Verdict.accepted n = ManyReply.words n
many_after (Verdict.refused k) n = ManyReply.refused k

abbrev pub bytes_after : Verdict → List ℕ → List ℕ → List ℕ
bytes_after Verdict.accepted written buffer = written
bytes_after (Verdict.refused k) written buffer = buffer

-- the whole call: its reply, and every byte of `replies` and of the rows afterwards
module _ (image words replies : List ℕ) where
  abbrev pub words_asked : ℕ
  words_asked = word_count (length words) (length replies)

  unfoldable pub many_reply : ManyReply
  many_reply = many_after (image_verdict image) words_asked

  -- "each word has an equal share of the buffer's rows, floor(rows / n)"
  abbrev pub share_rows : List ℕ → ℕ
  share_rows rows = row_count rows / words_asked

  unfoldable pub after_replies : List ℕ → List ℕ
  after_replies rows = bytes_after (image_verdict image) (laid_over 8 words_asked (place_at image words (share_rows rows)) replies) replies

  unfoldable pub after_rows : List ℕ → List ℕ
  after_rows rows = bytes_after (image_verdict image) (laid_over (116 * share_rows rows) words_asked (share_at image words (share_rows rows) rows) rows) rows
