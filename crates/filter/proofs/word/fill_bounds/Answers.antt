-- `filter::word::fill_bounds` meets its contract: `one` is the set of place i alone, and every letter that the bounds allow at a place before it is in the sets.
use Prim.Native.Nat.{ℕ, ◌+◌, ◌*◌, ◌<◌, ◌^◌}
use native.Mathlib.Omega.{arith}
use native.Mathlib.Nat.{pow-suc}
use native.Mathlib.Numerals.{add-one}
use mathlib.Core.Path.{◌≡◌, refl, sym, ap, ◌∙◌}
use Rattle.std.proofs.lemmas.Nat.{pow_below}
use Rattle.filter.proofs.Adding.{bounds_more}
use Rattle.filter.proofs.word.fill_bounds.Goals as goal

pub loop-i-init : goal.loop-i-init
loop-i-init c = (refl, record { long = c.requires.bounds_len_bound.1; few = c.requires.by_index_3; stands = λ i h. absurd (omega arith) })

pub add_rows-requires-clause-by_index : goal.add_rows-requires-clause-by_index
add_rows-requires-clause-by_index c =
    let high = c.requires.by_index_2 (2 * c.loop-i.i + 1) (omega (arith, c.loop-i-test.true)) in
    λ s h. c.requires.by_index s (omega (arith, h, high, c.from-high.ensures))

pub loop-i-preserved : goal.loop-i-preserved
loop-i-preserved c =
    let a = c.args in
    let i = c.loop-i.i in
    let one = c.loop-i.one in
    let is : one ≡ 2 ^ i = c.loop-i.invariant.0 in
    let small : one < 2 ^ 32 = rw is (pow_below i 32 (omega (arith, c.loop-i-test.true, c.requires.bounds_len_bound.0))) in
    let twice : one * 2 ≡ 2 ^ (i + 1) = ap (λ (n : ℕ). n * 2) is ∙ sym (pow-suc 2 i) ∙ ap (λ (n : ℕ). 2 ^ n) (sym (add-one i)) in (
      twice,
      bounds_more a.rows.now a.bounds.now c.loop-i.masks _ i c.from-low.result c.from-high.result one c.loop-i.invariant.1 c.from-low.ensures c.from-high.ensures is small
          c.add_rows.ensures,
    )
