-- What the statements of the demands are made of: the first test that fails, the work of each call beside the listings, replies as numbers, what a listing is
-- asked for, a path as bytes.
use Rattle.std.specs.Prelude.{ℕ, ◌+◌, ◌*◌, ◌-◌, ◌^◌, ◌<◌, ◌≤◌, Bool, false, ◌||◌, ◌≡◌, ◌↔◌, ◌⊎◌, List, ◌∷◌, ◌++◌, length, take, drop, T}
use Rattle.model.specs.Lists.{every, flat_map, part, within, byte, number_bytes}
use Rattle.model.specs.Blocks.{header}
use Rattle.model.specs.Lexicon.{entry, form_length}
use Rattle.model.specs.Grammar.{Grammar}
use Rattle.model.specs.GrammarOf.{grammar_of}
use Rattle.model.specs.Readings.{Reading, spelled, is_reading}
use Rattle.model.specs.Query.{Request, analysis, generation, entry_numbers}
use Rattle.model.specs.Spelling.{word_spelled}
use Rattle.model.specs.Refusals.{accepted, image_verdict}
use Rattle.model.specs.Rows.{Reply, reply_number}
use Rattle.model.specs.Calls.{listing_reply, after_listing}
use Rattle.model.specs.Beside.{Judgement, form_start}
use Rattle.contexts.specs.Operators.{Rule, KeptThroughout}
use Rattle.rule_texts.specs.Text.{RuleOf}
use Rattle.shares.specs.Words.{word_of, low_first, words_asked, share_rows}
use Rattle.conversion.specs.Conversion.{converted_image}

-- "a number of document 01's table", which the answers of document 02 join
abbrev pub in_table : ℕ → Bool
in_table k = within 1 17 k || within 19 20 k || within 23 24 k

-- in the order of the tests: test k fails, and every test before it passes
pub record FirstFails (k : ℕ) (tests : List (ℕ × Bool)) : Type 0 where
  pub earlier : List (ℕ × Bool)
  pub later : List (ℕ × Bool)
  pub in_turn : tests ≡ earlier ++ ((k, false) ∷ later)
  pub earlier_pass : T (every (λ t. t.1) earlier)

-- a code of replies that loses nothing: no two replies have one number, and 4k + 3 is the number of refused k alone
pub record Coding {A : Type 0} (number : A → ℕ) (refused : ℕ → A) : Type 0 where
  pub apart : (a b : A) → number a ≡ number b → a ≡ b
  pub refused_is : (a : A) (k : ℕ) → (number a ≡ 4 * k + 3) ↔ (a ≡ refused k)

-- a call that judges holds exactly where it is so; in C holds is 1 and fails 0
module _ (So : Type 0) where
  abbrev pub JudgedSo : Judgement → Type 0
  JudgedSo reply = ((reply ≡ Judgement.holds) × So) ⊎ ((reply ≡ Judgement.fails) × (So → ⊥))

  abbrev pub JudgedSoNumber : ℕ → Type 0
  JudgedSoNumber n = ((n ≡ 1) × So) ⊎ ((n ≡ 0) × (So → ⊥))

-- the judge "holds exactly for a reading of the word it spells"
abbrev pub IsReading : List ℕ → List ℕ → List ℕ → Type 0
IsReading image path pairing = T (is_reading (grammar_of image) (record { path = entry_numbers path; pairing = pairing }))

-- the judge of written rules "holds exactly when each rule's operator, in the meaning above, is kept at every place of the pairing"
abbrev pub KeepsRules : List ℕ → List ℕ → List ℕ → Type 0
KeepsRules image pairing text = (r : Rule) → RuleOf text r → KeptThroughout (grammar_of image).lexical pairing r

-- "the letters of an entry's form as they stand in the image"
module _ (image : List ℕ) (e : ℕ) where
  abbrev pub form_letters : List ℕ
  form_letters = take (form_length (entry image e)) (drop (form_start image e) image)

  -- in C, n letters copied to the front of a lent buffer with 4n + 1, or with 4n + 2 nothing written where it has no room
  abbrev pub FormCopied : List ℕ → List ℕ → ℕ → Type 0
  FormCopied before after number =
      let n = form_length (entry image e) in
      ((n ≤ length before) × (number ≡ 4 * n + 1) × (after ≡ form_letters ++ drop n before)) ⊎ ((length before < n) × (number ≡ 4 * n + 2) × (after ≡ before))

-- document 02, (m): "code points .. become letter numbers", at the front of a lent output; "output bytes past it keep their values"
abbrev pub SpelledOut : List ℕ → List ℕ → List ℕ → List ℕ → Type 0
SpelledOut image points before after = let w = word_spelled image points in (length w ≤ length before) × (after ≡ w ++ drop (length w) before)

-- document 02, (e): "A converter .. takes form 1 to form 2 and back": the image in the other form is accepted, and "the rows of every word are alike before and
-- after": the reply and every byte of a buffer, for whatever is asked
pub record InOtherForm (image other : List ℕ) : Type 0 where
  pub accepted_too : image_verdict other ≡ accepted
  pub form_is : (header other).form ≡ 3 - (header image).form
  pub replies_alike : (request : Request) (rows : ℕ) → listing_reply image request rows ≡ listing_reply other request rows
  pub rows_alike : (request : Request) (buffer : List ℕ) → after_listing image request buffer ≡ after_listing other request buffer

abbrev pub ConvertedTo : List ℕ → List ℕ → Type 0
ConvertedTo image other = (other ≡ converted_image image) × InOtherForm image other

-- the numbers of a slice are bytes
abbrev pub AreBytes : List ℕ → Type 0
AreBytes l = (i : ℕ) → byte l i < 256

-- many words in one call: word i, and share i of a buffer with the rows
abbrev pub word_at : List ℕ → ℕ → List ℕ
word_at words i = word_of (part 33 words i)

module _ (image words replies rows : List ℕ) where
  abbrev pub share_of : List ℕ → ℕ → List ℕ
  share_of buffer i = part (116 * share_rows image words replies rows) buffer i

  -- its work: each word as plain analysis with its share as the buffer, a length byte over 32 refused with 9, and no other byte changed
  pub record WordsAnswered (places shares : List ℕ) : Type 0 where
    pub plain : (i : ℕ) → i < words_asked image words replies → byte (part 33 words i) 0 ≤ 32
        → (part 8 places i ≡ low_first 8 (reply_number (listing_reply image (analysis (word_at words i)) (share_rows image words replies rows))))
        × (share_of shares i ≡ after_listing image (analysis (word_at words i)) (share_of rows i))
    pub too_long : (i : ℕ) → i < words_asked image words replies → 32 < byte (part 33 words i) 0 → (part 8 places i ≡ low_first 8 (reply_number (Reply.refused 9))) × (share_of shares i ≡ share_of rows i)
    pub past_places : drop (8 * words_asked image words replies) places ≡ drop (8 * words_asked image words replies) replies
    pub past_shares : drop (116 * share_rows image words replies rows * words_asked image words replies) shares ≡ drop (116 * share_rows image words replies rows * words_asked image words replies) rows

-- word i of n, by the reply that stands at its place. Eight bytes hold the number, and the rows are a slice, whose length a machine can tell.
pub record AmongWords (words rows places : List ℕ) (n i : ℕ) (reply : Reply) : Type 0 where
  pub one_of : i < n
  pub short : byte (part 33 words i) 0 ≤ 32
  pub told : part 8 places i ≡ low_first 8 (reply_number reply)
  pub in_eight : reply_number reply < 256 ^ 8
  pub slice : length rows < 2 ^ 63

-- what a listing asks of a reading: the word that it spells, or its path
abbrev pub Asks : Grammar → Request → Reading → Type 0
Asks g (analysis w) r = spelled g.surface r.pairing ≡ w
Asks g (generation path) r = r.path ≡ entry_numbers path

-- "a path as bytes, two to an entry number"
abbrev pub path_bytes : List ℕ → List ℕ
path_bytes es = flat_map number_bytes es
