-- `spell_points` meets its contract: the letters found so far stand in their places, and each of them may stand in a word or one may not.
use native.Mathlib.Omega.{arith}
use Prim.Native.Nat.{ℕ, ◌/◌, ◌<◌, ◌≤◌}
use mathlib.Core.Path.{◌≡◌, refl, sym, ap, ap₂, ◌∙◌}
use mathlib.Core.List.{List, ◌++◌, append-nil}
use lib.ListN.{length, get_or, set, length-set, drop_of_length-le}
use lib.Seq.{take_all}
use lib.Dec.{leb}
use borrow.Author.Tests.{le-leb, lt-leb}
use Rattle.model.specs.Lists.{every}
use Rattle.model.specs.Spelling.{letter_spelled, word_spelled}
use Rattle.model.proofs.Lists.{length_numbers}
use Rattle.model.proofs.Rest.{every_take_more, every_take_fails, front_more}
use Rattle.spelling.proofs.Letters.{letter_or_zero}
use Rattle.spelling.proofs.Words.{spelled_length, spelled_at}
use Rattle.spelling.proofs.spell_points.Goals as goal
use Rattle.spelling.proofs.spell_points.Goals.{else-letter-lt2, then-letter-lt2}
use Rattle.spelling.proofs.spell_points.Goals.{After-unwrap_or-letter, Start}

-- as many places as code points
module _ (c : Start) where
  abbrev spelled : List ℕ
  spelled = word_spelled c.args.image.now c.args.points.now

  size : length c.args.word.now ≡ length c.args.points.now / 2
  size = c.requires.word_len ∙ length_numbers c.args.points.now

  long : length spelled ≡ length c.args.word.now
  long = spelled_length c.args.image.now c.args.points.now ∙ sym size

-- the letter found in a turn
found : (c : After-unwrap_or-letter) → c.unwrap_or-letter.result ≡ get_or (word_spelled c.args.image.now c.args.points.now) c.loop-i.i 0
found c =
    let long = c.requires.word_len ∙ length_numbers c.args.points.now in
    letter_or_zero _ c.letter_spelled.ensures c.unwrap_or-letter.ensures
    ∙ ap (letter_spelled c.args.image.now) c.number_at.ensures.0
    ∙ sym (spelled_at c.args.image.now c.args.points.now c.loop-i.i (omega (arith, long)))

pub loop-i-init : goal.loop-i-init
loop-i-init c = (refl, refl, refl)

pub overflow_mul-i : goal.overflow_mul-i
overflow_mul-i c = omega (arith, size (goal.at.overflow_mul-i c).Start)

pub number_at-requires : goal.number_at-requires
number_at-requires c = omega (arith, size (goal.at.number_at-requires c).Start)

pub bounds-word-i : goal.bounds-word-i
bounds-word-i c = omega (arith, c.loop-i.invariant.1)

pub loop-i-preserved : goal.loop-i-preserved
loop-i-preserved c =
    let s = (goal.at.loop-i-preserved c).Start in
    let i = c.loop-i.i in
    let letter = c.unwrap_or-letter.result in
    let letter_is = found (goal.at.loop-i-preserved c).After-unwrap_or-letter in
    let inside : i < length (spelled s) = omega (arith, long s) in (
      ap₂ (λ (l : List ℕ) (x : ℕ). set l i x) c.loop-i.invariant.0 letter_is ∙ front_more (spelled s) i 0 inside c.args.word.now (omega arith),
      length-set c.loop-i.word i letter ∙ c.loop-i.invariant.1,
      elim c.if-letter-lt2.branch [
        | then-letter-lt2 w ↦ w.right-is ∙ sym (every_take_fails (spelled s) i 0 inside (leb 2) (ap (leb 2) (sym letter_is) ∙ lt-leb 2 letter w.if-letter-lt2.true))
        | else-letter-lt2 w ↦ w.right-is ∙ c.loop-i.invariant.2 ∙ sym (every_take_more (spelled s) i 0 inside (leb 2) (ap (leb 2) (sym letter_is) ∙ le-leb 2 letter w.if-letter-lt2.false))
      ],
    )

pub shape_of-word : goal.shape_of-word
shape_of-word c = c.loop-i.invariant.1

pub returns : goal.returns
returns c =
    let s = (goal.at.returns c).Start in
    let past : length c.args.word.now ≤ c.loop-i.i = omega arith in
    let whole = take_all c.loop-i.i (spelled s) (omega (arith, long s)) in
    record {
      right = c.loop-i.invariant.2 ∙ ap (every (leb 2)) whole;
      letters = c.loop-i.invariant.0 ∙ ap₂ (λ (l m : List ℕ). l ++ m) whole (drop_of_length-le c.args.word.now past) ∙ append-nil (spelled s);
    }
