-- `filter::word::fill` meets its contract: `one` is the set of the place that comes next alone, and the letters before it are in the sets.
use Prim.Native.Nat.{ℕ, ◌+◌, ◌*◌, ◌<◌, ◌^◌}
use native.Mathlib.Omega.{arith}
use native.Mathlib.Nat.{pow-suc}
use native.Mathlib.Numerals.{add-one}
use mathlib.Core.Path.{◌≡◌, refl, sym, ap, ◌∙◌}
use lib.ListN.{length}
use Rattle.std.proofs.lemmas.Nat.{pow_below}
use Rattle.filter.proofs.Adding.{wrote_more}
use Rattle.filter.proofs.word.fill.Goals as goal

pub loop-letter-init : goal.loop-letter-init
loop-letter-init c = (refl, record { long = c.requires.word_len_bound.1; few = c.requires.by_index_2; stands = λ i h. absurd (omega arith) })

pub loop-letter-preserved : goal.loop-letter-preserved
loop-letter-preserved c =
    let a = c.args in
    let i = c.loop-letter.letter-index in
    let one = c.loop-letter.one in
    let is : one ≡ 2 ^ i = c.loop-letter.invariant.0 in
    let inside : i < length a.word.now = c.loop-letter-test.true in
    let small : one < 2 ^ 32 = rw is (pow_below i 32 (omega (arith, inside, c.requires.word_len_bound.0))) in
    let twice : one * 2 ≡ 2 ^ (i + 1) = ap (λ (n : ℕ). n * 2) is ∙ sym (pow-suc 2 i) ∙ ap (λ (n : ℕ). 2 ^ n) (sym (add-one i)) in
    (twice, wrote_more a.rows.now a.word.now c.loop-letter.masks _ i c.from.result one c.loop-letter.invariant.1 c.from.ensures is small c.add_row.ensures)
