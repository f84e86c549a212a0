-- The index of forms of an accepted image: 146,688 bytes in six parts, for callers that ask many words of one image.
use Rattle.std.specs.Prelude.{ℕ, suc, ◌+◌, ◌<◌, ◌≤◌, ◌≡◌, List, length, get_or, take, drop}
use Rattle.model.specs.Lists.{byte}
use Rattle.model.specs.Blocks.{header}
use Rattle.model.specs.Lexicon.{first_entry, entry_count}
use Rattle.model.specs.GrammarOf.{grammar_of}
use Rattle.forms.specs.Letters.{row_count, row_letter, Rowed}
use Rattle.forms.specs.Slots.{Slotted}

-- where each part begins, and where the last ends
abbrev pub flags_start : ℕ
flags_start = 30976

abbrev pub order_start : ℕ
order_start = 31104

abbrev pub shared_start : ℕ
shared_start = 31232

abbrev pub slots_start : ℕ
slots_start = 34048

abbrev pub skips_start : ℕ
skips_start = 79104

abbrev pub forms_end : ℕ
forms_end = 146688

module _ (forms : List ℕ) where
  -- 121 rows of 256: row s has the lexical letters of the pairs with surface letter s
  abbrev pub rows_in : List ℕ
  rows_in = take 30976 forms

  -- byte a is not 0 where a:0 is a pair
  abbrev pub flags_in : List ℕ
  flags_in = take 128 (drop flags_start forms)

  -- how many, and then lexicons
  abbrev pub order_in : List ℕ
  order_in = take 128 (drop order_start forms)

  -- how many letters a slot's form shares with that of the slot before
  abbrev pub shared_in : List ℕ
  shared_in = take 2816 (drop shared_start forms)

  -- 16 bytes for each slot
  abbrev pub slots_in : List ℕ
  slots_in = take 45056 (drop slots_start forms)

  -- for each slot 12 numbers, one for each depth
  abbrev pub skips_in : List ℕ
  skips_in = take 67584 (drop skips_start forms)

-- what the index of an image says: no order of letters, lexicons or slots is promised, but that none is left out
pub record FormsOf (image forms : List ℕ) : Type 0 where
  pub long : length forms ≡ forms_end
  pub rowed : (s : ℕ) → s ≤ 120 → Rowed (rows_in forms) s
  pub paired : (p : ℕ) → p < (header image).pairs → ((grammar_of image).surface p ≡ 0 → ⊥)
      → (k : ℕ) × ((k < row_count (rows_in forms) ((grammar_of image).surface p)) × (row_letter (rows_in forms) ((grammar_of image).surface p) k ≡ (grammar_of image).lexical p))
  pub deleted : (p : ℕ) → p < (header image).pairs → (grammar_of image).surface p ≡ 0 → (get_or (flags_in forms) ((grammar_of image).lexical p) 0 ≡ 0 → ⊥)
  pub order_few : byte (order_in forms) 0 ≤ 64
  pub ordered : (k : ℕ) → k < byte (order_in forms) 0 → byte (order_in forms) (suc k) < (header image).lexicons
  pub slotted : (x : ℕ) → x < (header image).lexicons → Slotted image (slots_in forms) (shared_in forms) (skips_in forms) (first_entry image x) (first_entry image x + entry_count image x)
