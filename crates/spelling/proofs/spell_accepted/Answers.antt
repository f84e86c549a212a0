-- `spell_accepted` meets its contract: tests 9, 23 and 24, and then the word.
use Prim.Native.Nat.{ℕ, ◌/◌, ◌%◌, ◌≤◌}
use mathlib.Core.Bool.{true}
use mathlib.Core.Path.{◌≡◌, sym, ap, ◌∙◌, subst}
use mathlib.Core.List.{List}
use lib.ListN.{length, replicate}
use lib.Dec.{eqb}
use Rattle.model.specs.Lists.{within, where_room}
use Rattle.model.specs.Blocks.{header}
use Rattle.model.specs.Spelling.{word_spelled}
use Rattle.model.proofs.Booleans.{and_out, of_true, within_out}
use Rattle.model.proofs.Lists.{length_numbers}
use Rattle.image.specs.Laid.{Laid}
use Rattle.grammar.proofs.Verdicts.{accepted_image, laid_some}
use Rattle.spelling.specs.Answers.{handed_over}
use Rattle.spelling.proofs.Words.{spelled_length, room_for, word_within, word_back}
use Rattle.spelling.proofs.Replies.{test9, refused_9, refused_23, handed_over_lem}
use Rattle.spelling.proofs.spell_accepted.Goals as goal
use Rattle.spelling.proofs.spell_accepted.Goals.{After-spell_points, Else-not-right_count, Start}

module _ (c : Start) where
  abbrev image : List ℕ
  image = c.args.image.now

  abbrev points : List ℕ
  points = c.args.points.now

  abbrev out : List ℕ
  out = c.args.out.now

  abbrev spelled : List ℕ
  spelled = word_spelled image points

-- test 9 has passed
module _ (c : Else-not-right_count) where
  passed : test9 c.args.image.now c.args.points.now c.args.out.now ≡ true
  passed = sym c.right_count.ensures ∙ c.if-not-right_count.false

  few : length c.args.points.now / 2 ≤ 32
  few = let n = length c.args.points.now in (within_out 1 32 (n / 2) (and_out (eqb (n % 2) 0) (within 1 32 (n / 2)) (of_true (test9 c.args.image.now c.args.points.now c.args.out.now) passed)).1).1

pub returns-then-not-right_count : goal.returns-then-not-right_count
returns-then-not-right_count c =
    record { reply = (refused_9 (image (goal.at.returns-then-not-right_count c).Start) (points (goal.at.returns-then-not-right_count c).Start) (out (goal.at.returns-then-not-right_count c).Start) c.requires (sym c.right_count.ensures ∙ c.if-not-right_count.true)).0; bytes = (refused_9 (image (goal.at.returns-then-not-right_count c).Start) (points (goal.at.returns-then-not-right_count c).Start) (out (goal.at.returns-then-not-right_count c).Start) c.requires (sym c.right_count.ensures ∙ c.if-not-right_count.true)).1 }

pub read_header-h-requires : goal.read_header-h-requires
read_header-h-requires c = laid_some (image (goal.at.read_header-h-requires c).Start) (header (image (goal.at.read_header-h-requires c).Start)) (accepted_image (image (goal.at.read_header-h-requires c).Start) c.requires).laid

pub slice_bounds-word-end : goal.slice_bounds-word-end
slice_bounds-word-end c = few (goal.at.slice_bounds-word-end c).Else-not-right_count

pub spell_points-requires : goal.spell_points-requires
spell_points-requires c =
    record { laid = subst (Laid (image (goal.at.spell_points-requires c).Start)) (sym c.read_header-h.ensures) (accepted_image (image (goal.at.spell_points-requires c).Start) c.requires).laid; word_len = room_for (replicate 32 0) (length (points (goal.at.spell_points-requires c).Start) / 2) (few (goal.at.spell_points-requires c).Else-not-right_count) ∙ sym (length_numbers (points (goal.at.spell_points-requires c).Start)) }

pub returns-then-not-spell_points : goal.returns-then-not-spell_points
returns-then-not-spell_points c =
    record { reply = (refused_23 (image (goal.at.returns-then-not-spell_points c).Start) (points (goal.at.returns-then-not-spell_points c).Start) (out (goal.at.returns-then-not-spell_points c).Start) c.requires (passed (goal.at.returns-then-not-spell_points c).Else-not-right_count) (sym c.spell_points.ensures.right ∙ c.if-not-spell_points.true)).0; bytes = (refused_23 (image (goal.at.returns-then-not-spell_points c).Start) (points (goal.at.returns-then-not-spell_points c).Start) (out (goal.at.returns-then-not-spell_points c).Start) c.requires (passed (goal.at.returns-then-not-spell_points c).Else-not-right_count) (sym c.spell_points.ensures.right ∙ c.if-not-spell_points.true)).1 }

-- the letters that were found
module _ (c : After-spell_points) where
  abbrev found : List ℕ
  found = c.spell_points.new.word

  found_is : found ≡ (word_spelled c.args.image.now c.args.points.now)
  found_is = c.spell_points.ensures.letters

  found_long : length found ≡ length c.args.points.now / 2
  found_long = ap length found_is ∙ spelled_length c.args.image.now c.args.points.now

pub slice_bounds-hand_over-end : goal.slice_bounds-hand_over-end
slice_bounds-hand_over-end c = word_within (found (goal.at.slice_bounds-hand_over-end c).After-spell_points) _ _ (found_long (goal.at.slice_bounds-hand_over-end c).After-spell_points)

pub returns : goal.returns
returns c =
    let t = handed_over_lem (image (goal.at.returns c).Start) (points (goal.at.returns c).Start) (out (goal.at.returns c).Start) c.requires (passed (goal.at.returns c).Else-not-right_count) (sym c.spell_points.ensures.right ∙ c.if-not-spell_points.false) in
    let word = word_back (found (goal.at.returns c).After-spell_points) _ _ (found_long (goal.at.returns c).After-spell_points) ∙ found_is (goal.at.returns c).After-spell_points in record { reply = c.hand_over.ensures.reply ∙ ap (λ (l : List ℕ). handed_over (length l) (length (out (goal.at.returns c).Start))) word ∙ t.0; bytes = c.hand_over.ensures.bytes ∙ ap (λ (l : List ℕ). where_room l (out (goal.at.returns c).Start)) word ∙ t.1 }
