-- `answer_all` meets its contract: as many words as both have room for, each with an equal share.
use Prim.Native.Nat.{ℕ, ◌*◌, ◌/◌}
use native.Mathlib.Nat.{div-le_self}
use native.Mathlib.Omega.{arith}
use mathlib.Core.Path.{◌≡◌, ap, ◌∙◌}
use mathlib.Core.List.{List}
use lib.ListN.{length}
use Rattle.model.specs.Rows.{row_count}
use Rattle.shares.specs.Words.{place_at, share_at, laid_over, words_asked}
use Rattle.shares.proofs.Over.{shares_inside}
use Rattle.shares.proofs.Replies.{answered_places, answered_shares, no_places, no_shares, count_inside}
use Rattle.shares.proofs.answer_all.Goals as goal
use Rattle.shares.proofs.answer_all.Goals.{After-word_count-n}

module _ (c : After-word_count-n) where
  abbrev image : List ℕ
  image = c.args.image.now

  abbrev words : List ℕ
  words = c.args.words.now

  abbrev replies : List ℕ
  replies = c.args.replies.now

  abbrev out : List ℕ
  out = c.args.out.now

  abbrev n : ℕ
  n = c.word_count-n.result

  n_is : n ≡ words_asked image words replies
  n_is = c.word_count-n.ensures

pub answer_each-requires : goal.answer_each-requires
answer_each-requires c =
    let inside = count_inside (length (words (goal.at.answer_each-requires c).After-word_count-n)) (length (replies (goal.at.answer_each-requires c).After-word_count-n)) in
    let m = length (out (goal.at.answer_each-requires c).After-word_count-n) in
    record { image_value = c.requires.image_value; h_value = c.requires.h_value; indexed = c.requires.indexed; n_in_bounds = (omega (arith, inside.0, n_is (goal.at.answer_each-requires c).After-word_count-n), omega (arith, inside.1, n_is (goal.at.answer_each-requires c).After-word_count-n)); share_in_bounds = (omega (arith, div-le_self (m / 116) (n (goal.at.answer_each-requires c).After-word_count-n)), shares_inside (n (goal.at.answer_each-requires c).After-word_count-n) m) }

pub returns-then-n-gt0 : goal.returns-then-n-gt0
returns-then-n-gt0 c =
    let m = row_count (out (goal.at.returns-then-n-gt0 c).After-word_count-n) in
    let accepts = c.requires.image_value in record { count = n_is (goal.at.returns-then-n-gt0 c).After-word_count-n; replies = c.answer_each.ensures.replies ∙ ap (λ (k : ℕ). laid_over 8 k (place_at (image (goal.at.returns-then-n-gt0 c).After-word_count-n) (words (goal.at.returns-then-n-gt0 c).After-word_count-n) (m / k)) (replies (goal.at.returns-then-n-gt0 c).After-word_count-n)) (n_is (goal.at.returns-then-n-gt0 c).After-word_count-n) ∙ answered_places (image (goal.at.returns-then-n-gt0 c).After-word_count-n) (words (goal.at.returns-then-n-gt0 c).After-word_count-n) (replies (goal.at.returns-then-n-gt0 c).After-word_count-n) (out (goal.at.returns-then-n-gt0 c).After-word_count-n) accepts; rows = c.answer_each.ensures.rows ∙ ap (λ (k : ℕ). laid_over (116 * (m / k)) k (share_at (image (goal.at.returns-then-n-gt0 c).After-word_count-n) (words (goal.at.returns-then-n-gt0 c).After-word_count-n) (m / k) (out (goal.at.returns-then-n-gt0 c).After-word_count-n)) (out (goal.at.returns-then-n-gt0 c).After-word_count-n)) (n_is (goal.at.returns-then-n-gt0 c).After-word_count-n) ∙ answered_shares (image (goal.at.returns-then-n-gt0 c).After-word_count-n) (words (goal.at.returns-then-n-gt0 c).After-word_count-n) (replies (goal.at.returns-then-n-gt0 c).After-word_count-n) (out (goal.at.returns-then-n-gt0 c).After-word_count-n) accepts }

pub returns-else-n-gt0 : goal.returns-else-n-gt0
returns-else-n-gt0 c =
    let accepts = c.requires.image_value in
    let none : words_asked (image (goal.at.returns-else-n-gt0 c).After-word_count-n) (words (goal.at.returns-else-n-gt0 c).After-word_count-n) (replies (goal.at.returns-else-n-gt0 c).After-word_count-n) ≡ 0 = omega (arith, n_is (goal.at.returns-else-n-gt0 c).After-word_count-n, c.if-n-gt0.false) in
    record { count = n_is (goal.at.returns-else-n-gt0 c).After-word_count-n; replies = no_places (image (goal.at.returns-else-n-gt0 c).After-word_count-n) (words (goal.at.returns-else-n-gt0 c).After-word_count-n) (replies (goal.at.returns-else-n-gt0 c).After-word_count-n) (out (goal.at.returns-else-n-gt0 c).After-word_count-n) accepts none; rows = no_shares (image (goal.at.returns-else-n-gt0 c).After-word_count-n) (words (goal.at.returns-else-n-gt0 c).After-word_count-n) (replies (goal.at.returns-else-n-gt0 c).After-word_count-n) (out (goal.at.returns-else-n-gt0 c).After-word_count-n) accepts none }
