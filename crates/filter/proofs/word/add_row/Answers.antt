-- `filter::word::add_row` meets its contract: the letters before the place where the loop stands have the positions.
use Prim.Native.Nat.{◌+◌, ◌*◌}
use native.Mathlib.Omega.{arith}
use mathlib.Core.Path.{◌≡◌, ◌∙◌}
use Rattle.forms.specs.Letters.{row_letter}
use Rattle.filter.proofs.Adding.{added_none, added_more}
use Rattle.filter.proofs.Parts.{part_item}
use Rattle.filter.proofs.word.add_row.Goals as goal

pub loop-letter-init : goal.loop-letter-init
loop-letter-init c = let a = c.args in added_none a.rows.now a.masks.now a.s a.one

pub loop-letter-preserved : goal.loop-letter-preserved
loop-letter-preserved c =
    let a = c.args in
    let k = c.loop-letter.letter-index in
    let item = part_item a.rows.now (256 * a.s + 1) c.from-many.result k c.loop-letter-test.true in
    let is : c.from.result ≡ row_letter a.rows.now a.s k = c.from.ensures ∙ item.1 in
    let letter = c.requires.rowed.letters_in k (omega (arith, item.0, c.from-many.ensures)) in
    added_more a.rows.now a.masks.now c.loop-letter.masks a.s a.one k c.from.result c.loop-letter.invariant is (omega (arith, is, letter, c.requires.s_bound.1))
