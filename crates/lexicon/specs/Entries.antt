-- Test 8 with the letters that a form may have as a parameter: with 2 to L it is test 8, with those that some pair has on its lexical side it is tests 8 and
-- 14 in one.
use Rattle.std.specs.Prelude.{ℕ, Bool, false, ◌&&◌, List, ◌≡◌, T, eqb}
use Rattle.model.specs.Lists.{below, every, within}
use Rattle.model.specs.Blocks.{Header}
use Rattle.model.specs.Lexicon.{first_entry, entry, is_entry_of}
use Rattle.letters.specs.Marks.{is_marked}

-- The marked letters are letters from 2 to L; where there is no need to look, they are all of them.
pub record MarkedLetters (marked : List ℕ) (letters : ℕ) (look : Bool) : Type 0 where
  pub is_letter : (a : ℕ) → T (is_marked marked a) → T (within 2 letters a)
  pub each : look ≡ false → (a : ℕ) → T (within 2 letters a) → T (is_marked marked a)

module _ (may : ℕ → Bool) (image : List ℕ) (h : Header) where
  -- "an entry breaks its layout": none does
  abbrev pub are_entries_of : Bool
  are_entries_of = every (λ e. is_entry_of (entry image e) h.form may h.lexicons) (below h.entries)

  -- "lexicon counts don't add to E, or an entry breaks its layout": neither holds
  abbrev pub is_lexicon_of : Bool
  is_lexicon_of = eqb (first_entry image h.lexicons) h.entries && are_entries_of
