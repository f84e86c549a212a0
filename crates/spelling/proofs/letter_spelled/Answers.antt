-- `letter_spelled` meets its contract: the code point's own letter, and then that of what it is folded to.
use borrow.Author.Rules.{rules}
use mathlib.Core.Path.{◌≡◌}
use Rattle.std.specs.Prelude.{Some}
use Rattle.std.specs.Option.{MatchOption}
use Rattle.folding.specs.Folding.{fold}
use Rattle.model.specs.Spelling.{letter_of}
use Rattle.spelling.specs.Answers.{if_letter}
use Rattle.spelling.proofs.Letters.{own_or_folded}
use Rattle.spelling.proofs.letter_spelled.Goals as goal

pub returns : goal.returns
returns c =
    let a = c.args in
    let folded = if_letter (letter_of a.image.now (fold a.c)) in
    let told : MatchOption c.letter_of.result (c.or_else.result ≡ folded) (λ x. c.or_else.result ≡ Some x) = search rules in
    own_or_folded a.image.now a.c c.letter_of.ensures told
