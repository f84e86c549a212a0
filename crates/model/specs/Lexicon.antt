-- Document 01, "Lexicon": entries of an image, the entries of a lexicon, and paths.
use Rattle.std.specs.Prelude.{ℕ, ◌+◌, Bool, ◌&&◌, ◌||◌, not, cond, List, [], ◌∷◌, map, length, take, drop, leb, ltb, eqb}
use Rattle.model.specs.Lists.{below, every, any, count, sum, within, is_zero, byte, number}
use Rattle.model.specs.Blocks.{record_at}
use Rattle.model.specs.RuleTables.{in_set}

module _ (image : List ℕ) where
  -- "entry count of lexicon 0, 1, .. X-1"
  unfoldable pub entry_count : ℕ → ℕ
  entry_count x = number (record_at image 5 x) 0

  -- "Entries are numbered from 0 through the lexicons in order.": the first of lexicon x
  unfoldable pub first_entry : ℕ → ℕ
  first_entry x = sum (map entry_count (below x))

  unfoldable pub in_lexicon : ℕ → ℕ → Bool
  in_lexicon x e = leb (first_entry x) e && ltb e (first_entry x + entry_count x)

  abbrev pub entry : ℕ → List ℕ
  entry e = record_at image 6 e

-- "An entry is form length (0-12), 12 letter bytes (2-L, the rest 0), continuation lexicon (below X, or 255 for end), a two-byte gloss number."
module _ (entry : List ℕ) where
  abbrev pub form_length : ℕ
  form_length = byte entry 0

  unfoldable pub form_of : List ℕ
  form_of = take form_length (drop 1 entry)

  abbrev pub continuation : ℕ
  continuation = byte entry 13

  abbrev pub gloss : ℕ
  gloss = number entry 14

  -- by the form of the image: 1, "continuation lexicon (below X, or 255 for end)"; 2, "an end mark (0 or 1), gloss, and eight bytes, bit b of byte j naming
  -- lexicon 8j + b". "A path may stop only at a marked entry."
  unfoldable pub may_stop : ℕ → Bool
  may_stop form = eqb (byte entry 13) (cond (eqb form 2) 1 255)

  -- a path may go on with lexicon x; bits name lexicons 0 to 63
  unfoldable pub goes_to : ℕ → ℕ → Bool
  goes_to form x = cond (eqb form 2) (in_set (drop 16 entry) x) (eqb (byte entry 13) x && not (may_stop form))

  -- what its form asks of the ways on. 1: "(below X, or 255 for end)". 2: "A bit for a missing lexicon, or an entry with neither bit nor end mark, is refused with 8"
  unfoldable pub right_ways : ℕ → ℕ → Bool
  right_ways form lexicons =
      cond (eqb form 2)
      (leb (byte entry 13) 1 && every (λ x. ltb x lexicons || not (goes_to 2 x)) (below 64) && (may_stop 2 || any (goes_to 2) (below 64)))
      (ltb continuation lexicons || eqb continuation 255)

  -- how many ways on it has, "an ending counted as a way"
  unfoldable pub way_count : ℕ → ℕ
  way_count form = count (goes_to form) (below 64) + cond (may_stop form) 1 0

  -- by the letters that a form may have
  unfoldable pub is_entry_of : ℕ → (ℕ → Bool) → ℕ → Bool
  is_entry_of form may lexicons =
      leb form_length 12
      && every may form_of
      && every is_zero (drop (1 + form_length) (take 13 entry))
      && right_ways form lexicons

  unfoldable pub is_entry : ℕ → ℕ → ℕ → Bool
  is_entry form letters lexicons = is_entry_of form (within 2 letters) lexicons

-- "A path is 1-16 entries, the first from lexicon 0, each next from its predecessor's continuation, the last and only the last with 255."
-- By the number of entries, which may begin, which may follow which, and which may end a path. "only the last" is a matter of which may follow: `follows` in
-- GrammarOf, and `image_ends_last` in proofs/Endings.antt.
module _ (entries : ℕ) (follows : ℕ → ℕ → Bool) (ends : ℕ → Bool) where
  -- from a place where these entries may open, or the path may stop
  unfoldable pub linked : (ℕ → Bool) → Bool → List ℕ → Bool
  linked may stop [] = stop
  linked may stop (e ∷ es) = may e && ltb e entries && linked (follows e) (ends e) es

abbrev pub path_length : List ℕ → Bool
path_length es = within 1 16 (length es)
