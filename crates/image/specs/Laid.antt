-- What tests 1 and 3 leave for those that follow: the limits, the header, and the whole length.
use Rattle.std.specs.Prelude.{ℕ, ◌*◌, ◌≤◌, ◌≡◌, List, length}
use Rattle.model.specs.Blocks.{Header, header, block_total}

-- the counts are within their limits
pub record Counted (h : Header) : Type 0 where
  pub letters_least : 2 ≤ h.letters
  pub letters_most : h.letters ≤ 120
  pub pairs_least : 1 ≤ h.pairs
  pub pairs_most : h.pairs ≤ 250
  pub rules_most : h.rules ≤ 32
  pub lexicons_least : 1 ≤ h.lexicons
  pub lexicons_most : h.lexicons ≤ 64
  pub entries_least : 1 ≤ h.entries
  pub entries_most : h.entries ≤ 2800
  pub sets_most : h.sets ≤ 31

-- and the form is one there is, and the blocks that they ask for are no more than an image has
pub record Limited (h : Header) : Type 0 where
  pub letters_least : 2 ≤ h.letters
  pub letters_most : h.letters ≤ 120
  pub pairs_least : 1 ≤ h.pairs
  pub pairs_most : h.pairs ≤ 250
  pub rules_most : h.rules ≤ 32
  pub lexicons_least : 1 ≤ h.lexicons
  pub lexicons_most : h.lexicons ≤ 64
  pub entries_least : 1 ≤ h.entries
  pub entries_most : h.entries ≤ 2800
  pub sets_most : h.sets ≤ 31
  pub form_least : 1 ≤ h.form
  pub form_most : h.form ≤ 2
  pub blocks_most : block_total h ≤ 128

pub record Laid (image : List ℕ) (h : Header) : Type 0 where
  pub header_is : h ≡ header image
  pub whole : length image ≡ 512 * block_total h
  pub limits : Limited h
