-- `letter_marks` meets its contract: the letters passed are marked.
use native.Mathlib.Omega.{arith}
use mathlib.Core.Path.{◌≡◌, ap, ◌∙◌}
use mathlib.Core.List.{List}
use Prim.Native.Nat.{ℕ, ◌+◌}
use lib.ListN.{set}
use Rattle.letters.specs.Marks.{marks_of}
use Rattle.letters.proofs.MarkLaws.{letters_below, marks_start, marks_more, marks_letters}
use Rattle.letters.proofs.marks.letter_marks.Goals as goal

pub loop-a-init : goal.loop-a-init
loop-a-init c = marks_start

pub loop-a-preserved : goal.loop-a-preserved
loop-a-preserved c =
    ap (λ (m : List ℕ). set m c.loop-a.a 1) c.loop-a.invariant ∙ marks_more c.loop-a.a (omega arith) (omega arith)

pub returns-2 : goal.returns-2
returns-2 c =
    let a = c.loop-a.a in
    let letters = c.args.letters in
    let last : a + 1 ≡ letters + 1 = omega arith in
    ap (λ (m : List ℕ). set m a 1) c.loop-a.invariant ∙ marks_more a (omega arith) (omega arith) ∙ ap (λ (n : ℕ). marks_of (letters_below n)) last ∙ marks_letters letters
