-- `has_letter` meets its contract: a set that is missing and a letter past a set's bytes have none, and else the letter's bit decides.
use native.Mathlib.Omega.{arith}
use mathlib.Core.Bool.{false}
use mathlib.Core.Path.{◌≡◌, sym, ap₂, ◌∙◌}
use mathlib.Core.List.{List, []}
use Prim.Native.Nat.{ℕ, ◌/◌, ◌%◌}
use lib.ListN.{get_or}
use Rattle.model.specs.Lists.{byte, bit}
use Rattle.model.specs.RuleTables.{letter_sets, in_set}
use Rattle.sets.proofs.LetterSets.{set_missing, set_past, set_has}
use Rattle.sets.proofs.has_letter.Goals as goal
use Rattle.sets.proofs.has_letter.Goals.{then-h-i-via-then-h-i, then-h-i-via-else-h-i+then-letter-ge128}

pub returns-then-h-i : goal.returns-then-h-i
returns-then-h-i c =
    let a = c.args in
    let e : in_set (get_or (letter_sets a.image.now) a.i []) a.letter ≡ false =
    elim c.then-h-i.branch [
      | then-h-i-via-then-h-i w ↦ set_missing c.requires a.i a.letter w.if-h-i.true
      | then-h-i-via-else-h-i+then-letter-ge128 w ↦ set_past c.requires a.i a.letter w.if-h-i.false (omega arith)
    ] in
    sym e

pub returns : goal.returns
returns c =
    let a = c.args in
    c.has_bit.ensures
    ∙ ap₂ (λ (s : List ℕ) (n : ℕ). bit (byte s (n / 8)) (n % 8)) c.set_at.ensures.0 c.from-letter.ensures
    ∙ set_has c.requires a.i a.letter c.if-h-i.false
