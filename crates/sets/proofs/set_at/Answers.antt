-- `set_at` meets its contract: the part of the image that is the set's record.
use native.Mathlib.Omega.{arith}
use mathlib.Core.Path.{◌≡◌, sym, ap, ap₂, ◌∙◌}
use Prim.Native.Nat.{ℕ, ◌+◌, ◌-◌}
use lib.ListN.{length, take, drop}
use Rattle.model.specs.Blocks.{kinds, record_at}
use Rattle.sets.proofs.LetterSets.{set_inside, set_part, set_length}
use Rattle.sets.proofs.set_at.Goals as goal

pub record_start-from-requires-clause-i_bound : goal.record_start-from-requires-clause-i_bound
unfolding kinds
record_start-from-requires-clause-i_bound c = c.requires.i_bound

pub slice_bounds-result-end : goal.slice_bounds-result-end
slice_bounds-result-end c = omega (arith, c.record_start-from.ensures.0, set_inside c.requires.laid c.args.i c.requires.i_bound)

pub returns : goal.returns
returns c =
    let from = c.record_start-from.result in
    let image = c.args.image.now in
    let wide : from + 16 - from ≡ 16 = omega arith in
    let e : take (from + 16 - from) (drop from image) ≡ record_at image 7 c.args.i =
    ap₂ (λ (k m : ℕ). take k (drop m image)) wide c.record_start-from.ensures.0 ∙ sym (set_part c.requires.laid c.args.i) in
    (e, ap length e ∙ set_length c.requires.laid c.args.i c.requires.i_bound)
