-- The input as it comes in: the line begun after more bytes, and the text of the lines that ended in them.
use Rattle.std.specs.Prelude.{ℕ, ◌+◌, ◌≤◌, min, not, cond, ◌≡◌, List, [], ◌∷◌, ◌++◌, length, eqb, Option, Some, None}
use Rattle.model.specs.Lists.{given}
use Rattle.model.specs.Tree.{is_nil}
use Rattle.model.specs.Lines.{line_of, printed_line}
use Rattle.print.specs.Text.{Put}
use Rattle.parse.specs.Fields.{Begun, line_after}
use Rattle.answers.specs.declared.input.Reached.{Reached}
use Rattle.answers.specs.Answered.{Waited}

abbrev pub begun_after : List ℕ → List ℕ → List ℕ
begun_after line [] = line
begun_after line (b ∷ bs) = cond (eqb b 10) (begun_after [] bs) (begun_after (line ++ (b ∷ [])) bs)

-- and the buffer that keeps its first bytes
abbrev pub buffer_after : List ℕ → List ℕ → List ℕ → List ℕ
buffer_after buffer line [] = buffer
buffer_after buffer line (b ∷ bs) = cond (eqb b 10) (buffer_after buffer [] bs) (buffer_after (line_after buffer (min (length line) 256) b) (line ++ (b ∷ [])) bs)

-- a buffer in which a line has begun, and how many bytes it keeps, after more bytes
pub record Grown (before after : List ℕ) (kept : ℕ) (line bytes : List ℕ) : Type 0 where
  pub begun : Begun after kept (begun_after line bytes)
  pub same : after ≡ buffer_after before line bytes

module _ (image : List ℕ) where
  abbrev pub text_after : List ℕ → List ℕ → List ℕ
  text_after line [] = []
  text_after line (b ∷ bs) = cond (eqb b 10) (printed_line image (line_of line) ++ text_after [] bs) (text_after (line ++ (b ∷ [])) bs)

  -- "a last line may lack its line end"
  abbrev pub last_text : List ℕ → List ℕ
  last_text line = given (not (is_nil line)) (printed_line image (line_of line))

-- the line begun and the text after a byte that is read; or all as before
module _ (image line line' out out' : List ℕ) (from : Reached) (b : ℕ) where
  pub record Passed (to : Reached) : Type 0 where
    pub grown : (l : List ℕ) → Begun line from.kept l → Grown line line' to.kept l (b ∷ [])
    pub kept_few : to.kept ≤ 256
    pub text : (l : List ℕ) → Begun line from.kept l → Put out out' from.end to.end (text_after image l (b ∷ []))
    pub end_near : to.end ≤ from.end + 22032

  abbrev pub ByteRead : Option Reached → Type 0
  ByteRead (Some to) = Passed to
  ByteRead None = (line' ≡ line) × Waited out out' from.end
