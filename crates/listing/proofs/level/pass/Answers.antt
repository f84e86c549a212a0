-- `pass` meets its contract: a null or a letter more is within the bounds, and the letter is one that is asked for.
use mathlib.Core.Path.{sym, ◌∙◌}
use Rattle.listing.specs.Asked.{word_pattern}
use Rattle.listing.proofs.Levels.{null_full, null_passed, letter_not, letter_full, letter_passed}
use Rattle.listing.proofs.level.pass.Goals as goal

pub returns-then-level-ge-MOST_NULLS : goal.returns-then-level-ge-MOST_NULLS
returns-then-level-ge-MOST_NULLS c = null_full (word_pattern c.args.asked c.args.word.now) c.args.level c.requires c.args.x.0 c.if-x-eq0.true c.if-level-ge-MOST_NULLS.true

pub returns-then-x-eq0 : goal.returns-then-x-eq0
returns-then-x-eq0 c = null_passed (word_pattern c.args.asked c.args.word.now) c.args.level c.requires c.args.x.0 c.if-x-eq0.true c.if-level-ge-MOST_NULLS.false

pub returns-then-not-allows_letter : goal.returns-then-not-allows_letter
returns-then-not-allows_letter c =
    let none = sym c.allows_letter.ensures ∙ c.if-not-allows_letter.true in
    letter_not (word_pattern c.args.asked c.args.word.now) c.args.level c.requires c.args.x.0 c.if-x-eq0.false none

pub returns-then-level-ge-MOST_LETTERS : goal.returns-then-level-ge-MOST_LETTERS
returns-then-level-ge-MOST_LETTERS c =
    let allowed = sym c.allows_letter.ensures ∙ c.if-not-allows_letter.false in
    letter_full (word_pattern c.args.asked c.args.word.now) c.args.level c.requires c.args.x.0 c.if-x-eq0.false allowed c.if-level-ge-MOST_LETTERS.true

pub returns : goal.returns
returns c =
    let allowed = sym c.allows_letter.ensures ∙ c.if-not-allows_letter.false in
    letter_passed (word_pattern c.args.asked c.args.word.now) c.args.level c.requires c.args.x.0 c.if-x-eq0.false allowed c.if-level-ge-MOST_LETTERS.false
