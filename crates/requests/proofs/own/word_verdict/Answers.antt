-- `word_verdict` meets its contract: test 9, then test 10.
use borrow.Author.Tests.{not-true, not-false}
use mathlib.Core.Path.{◌≡◌, sym, ap, ◌∙◌}
use Rattle.model.specs.Blocks.{Header, header}
use Rattle.requests.proofs.WordTests.{too_short, too_long, bad_letter, right_word}
use Rattle.requests.proofs.own.word_verdict.Goals as goal
use Rattle.requests.proofs.own.word_verdict.Goals.{After-are_letters}

-- where the length is right, and the letters are looked at
module _ (c : After-are_letters) where
  same_letters : c.args.h.letters ≡ (header c.args.image.now).letters
  same_letters = ap (λ (g : Header). g.letters) c.requires.laid.header_is

pub returns-then-n-lt1 : goal.returns-then-n-lt1
returns-then-n-lt1 c = too_short c.args.image.now c.args.word.now c.if-n-lt1.true

pub returns-then-n-gt32 : goal.returns-then-n-gt32
returns-then-n-gt32 c = too_long c.args.image.now c.args.word.now c.if-n-lt1.false c.if-n-gt32.true

pub returns-then-not-are_letters : goal.returns-then-not-are_letters
returns-then-not-are_letters c =
    let a = c.args in
    let bad = sym c.are_letters.ensures ∙ not-true c.are_letters.result c.if-not-are_letters.true-raw in
    bad_letter a.image.now a.word.now c.if-n-lt1.false c.if-n-gt32.false a.h.letters (same_letters (goal.at.returns-then-not-are_letters c).After-are_letters) bad

pub returns : goal.returns
returns c =
    let a = c.args in
    let right = sym c.are_letters.ensures ∙ not-false c.are_letters.result c.if-not-are_letters.false-raw in
    right_word a.image.now a.word.now c.if-n-lt1.false c.if-n-gt32.false a.h.letters (same_letters (goal.at.returns c).After-are_letters) right
