-- `are_right_many` meets its contract: the mark, the number that the last eight bytes make, and one of the two.
use borrow.Author.Tests.{le-leb, lt-leb, eq-eqb, ne_eqb}
use native.Mathlib.Omega.{arith}
use mathlib.Core.Bool.{Bool, ◌&&◌, ◌||◌, not}
use mathlib.Core.List.{List}
use mathlib.Core.Path.{◌≡◌, sym, ap, ◌∙◌, subst}
use Prim.Native.Nat.{ℕ, ◌^◌}
use lib.ListN.{drop}
use lib.Seq.{get_or-drop, drop-drop}
use lib.Dec.{leb, ltb, eqb}
use Rattle.model.proofs.Booleans.{left_true, left_false}
use Rattle.model.specs.RuleTables.{in_set}
use Rattle.model.specs.Lexicon.{right_ways}
use Rattle.digits.specs.Ways.{Names}
use Rattle.lexicon.proofs.WayLaws.{many_is}
use Rattle.lexicon.proofs.ways.are_right_many.Goals as goal
use Rattle.lexicon.proofs.ways.are_right_many.Goals.{Joined-mark-le1, then-mark-le1, else-mark-le1}

module _ (c : Joined-mark-le1) where
  abbrev mark : ℕ
  mark = c.byte_at-mark.result

  abbrev bits : ℕ
  bits = c.bits_at-bits.result

  abbrev named : Bool
  named = ltb bits (2 ^ c.args.lexicons)

  abbrev goes : Bool
  goes = eqb mark 1 || not (eqb bits 0)

  two : c.if-mark-le1.value ≡ (leb mark 1 && named)
  two =
      elim c.if-mark-le1.branch [
        | then-mark-le1 w ↦ w.value-is ∙ w.are_named.ensures ∙ sym (left_true (leb mark 1) named (le-leb mark 1 w.if-mark-le1.true))
        | else-mark-le1 w ↦ let low = lt-leb mark 1 w.if-mark-le1.false in w.value-is ∙ low ∙ sym (left_false (leb mark 1) named low)
      ]

  right_is : (leb mark 1 && named && goes) ≡ right_ways (drop c.args.at c.args.image.now) 2 c.args.lexicons
  right_is =
      let bytes = drop c.args.at c.args.image.now in
      ap (λ (n : ℕ). leb n 1 && named && (eqb n 1 || not (eqb bits 0))) (c.byte_at-mark.ensures.0 ∙ sym (get_or-drop c.args.at c.args.image.now 13 0))
      ∙ many_is bytes bits (subst (λ (l : List ℕ). Names (in_set l) bits) (sym (drop-drop 16 c.args.at c.args.image.now)) c.bits_at-bits.ensures) (omega arith) c.args.lexicons c.requires.1

  decided : (b : Bool) → c.if-mark-le1.value ≡ b → (b && goes) ≡ right_ways (drop c.args.at c.args.image.now) 2 c.args.lexicons
  decided b e = ap (λ (x : Bool). x && goes) (sym e ∙ two) ∙ right_is

pub returns-then-mark-eq1 : goal.returns-then-mark-eq1
returns-then-mark-eq1 c =
    let j = (goal.at.returns-then-mark-eq1 c).Joined-mark-le1 in
    let one = eq-eqb (mark j) 1 c.if-mark-eq1.true in
    one ∙ ap (λ (x : Bool). x || not (eqb (bits j) 0)) (sym one) ∙ decided j _ c.if-are_named.true

pub returns-else-mark-eq1 : goal.returns-else-mark-eq1
returns-else-mark-eq1 c =
    let j = (goal.at.returns-else-mark-eq1 c).Joined-mark-le1 in
    ap (λ (x : Bool). x || not (eqb (bits j) 0)) (sym (ne_eqb (mark j) 1 c.if-mark-eq1.false)) ∙ decided j _ c.if-are_named.true

pub returns-else-are_named : goal.returns-else-are_named
returns-else-are_named c =
    let j = (goal.at.returns-else-are_named c).Joined-mark-le1 in
    c.if-are_named.false ∙ decided j _ c.if-are_named.false
