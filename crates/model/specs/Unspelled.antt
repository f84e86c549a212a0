-- Document 02, (b), "An entry that can never be spelled", in words: a letter of its form is the lexical side of no pair.
use Rattle.std.specs.Prelude.{ℕ, ◌<◌, ◌≡◌, get_or}
use mathlib.Core.List.{List, Memᴰ}
use Rattle.model.specs.Blocks.{header}
use Rattle.model.specs.RuleTables.{pairs, boundary_pair}
use Rattle.model.specs.Lexicon.{entry, form_of}

-- "a letter in an entry which no pair has on its lexical side"
pub record Unspelled (image : List ℕ) (e : ℕ) : Type 0 where
  pub entry_there : e < (header image).entries
  pub letter : ℕ
  pub in_form : Memᴰ letter (form_of (entry image e))
  pub no_pair : (p : ℕ) → p < (header image).pairs → (get_or (pairs image) p boundary_pair).lexical ≡ letter → ⊥
