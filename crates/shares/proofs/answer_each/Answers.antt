-- `answer_each` meets its contract: the places and the shares of the words passed are laid, those after them are as they were.
use Prim.Native.Nat.{ℕ, ◌+◌, ◌*◌, ◌-◌, ◌≤◌}
use native.Mathlib.Omega.{arith}
use mathlib.Core.Path.{◌≡◌, ap, ap₂, ◌∙◌}
use lib.ListN.{length, take, drop}
use Rattle.model.specs.Lists.{part}
use Rattle.shares.specs.Words.{after_record, share_at}
use Rattle.shares.proofs.Over.{over_none, part_inside, over_lent, over_more}
use Rattle.shares.proofs.Records.{place_of}
use Rattle.shares.proofs.answer_each.Goals as goal
use Rattle.shares.proofs.answer_each.Goals.{In-loop-i}

pub loop-i-init : goal.loop-i-init
loop-i-init c = (over_none 8 _ _, over_none (116 * c.args.share) _ _)

-- where the word's share lies
share_inside : (c : In-loop-i) → 116 * c.args.share * c.loop-i.i + 116 * c.args.share ≤ length c.args.out.now
share_inside c = part_inside (116 * c.args.share) (share_at c.args.image.now c.args.words.now c.args.share c.args.out.now) c.args.out.now c.loop-i.i c.args.n (omega arith) c.requires.share_in_bounds.1

pub slice_bounds-answer_word-end-in-loop-i-2 : goal.slice_bounds-answer_word-end-in-loop-i-2
slice_bounds-answer_word-end-in-loop-i-2 c = omega (arith, share_inside (goal.at.slice_bounds-answer_word-end-in-loop-i-2 c).In-loop-i, c.loop-i.invariant.1.same)

pub loop-i-preserved : goal.loop-i-preserved
loop-i-preserved c =
    let a = c.args in
    let i = c.loop-i.i in
    let width = 116 * a.share in
    let places = c.loop-i.invariant.0 in
    let shares = c.loop-i.invariant.1 in
    let inside = share_inside (goal.at.loop-i-preserved c).In-loop-i in
    let record_width : 33 * i + 33 - 33 * i ≡ 33 = omega arith in
    let place_width : 8 * i + 8 - 8 * i ≡ 8 = omega arith in
    let share_width : width * i + width - width * i ≡ width = omega arith in
    let asked : take (33 * i + 33 - 33 * i) (drop (33 * i) a.words.now) ≡ part 33 a.words.now i = ap (λ (m : ℕ). take m (drop (33 * i) a.words.now)) record_width in
    let lent = over_lent _ _ _ _ _ shares _ share_width in
    let place = place_of a.image.now a.words.now a.out.now _ _ _ a.share i asked lent inside c.answer_word.ensures.reply in (
      over_more _ _ _ _ _ places _ place_width (omega (arith, c.requires.n_in_bounds.1)) _ place c.answer_word.auto.place,
      over_more _ _ _ _ _ shares _ share_width inside _ (c.answer_word.ensures.bytes ∙ ap₂ (after_record a.image.now) asked lent) c.answer_word.auto.share,
    )
