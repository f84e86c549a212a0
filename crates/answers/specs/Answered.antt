-- What the answer to a line comes to: its text, and where it ends; or nothing yet, where other text is to be handed over first.
use Rattle.std.specs.Prelude.{ℕ, ◌+◌, ◌<◌, ◌≤◌, ◌≡◌, List, take, Option, Some, None}
use Rattle.model.specs.Lines.{line_of, letters, printed_line}
use Rattle.print.specs.Text.{Put}

-- text stands before this place, and nothing is put
pub record Waited (before after : List ℕ) (at : ℕ) : Type 0 where
  pub some : 0 < at
  pub same : after ≡ before

module _ (image before after : List ℕ) (at : ℕ) where
  abbrev pub WordAnswered : List ℕ → Option ℕ → Type 0
  WordAnswered word (Some end) = Put before after at end (printed_line image (letters word)) × (end ≤ at + 22032)
  WordAnswered word None = Waited before after at

  -- a line is given by its first 256 bytes
  abbrev pub LineAnswered : List ℕ → Option ℕ → Type 0
  LineAnswered first (Some end) = ((l : List ℕ) → first ≡ take 256 l → Put before after at end (printed_line image (line_of l))) × (end ≤ at + 22032)
  LineAnswered first None = Waited before after at
