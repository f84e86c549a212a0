-- `keep_column` meets its contract: by the letters as they are where no side names a set, else as the sides see them.
use borrow.Author.Rules.{rules}
use Rattle.model.specs.RuleTables.{letter_sets, matches}
use Rattle.sets.specs.Sides.{sides_of, meets}
use Rattle.columns.specs.Passes.{pair_in}
use Rattle.sets.proofs.Lists.{fails}
use Rattle.columns.proofs.SeenColumns.{seen_column, passed_same}
use Rattle.sets.proofs.LetterSets.{plain_column}
use Rattle.columns.proofs.keep_column.Goals as goal

pub returns-then-not-has_set : goal.returns-then-not-has_set
returns-then-not-has_set c =
    let a = c.args in
    let sets = letter_sets a.image.now in
    let column = sides_of a.column in
    let lexical = a.pairs.now.lexical in
    let surface = a.pairs.now.surface in
    passed_same meets (matches sets) column lexical surface lexical surface a.n
    (λ p h. plain_column sets column (pair_in lexical surface p) (fails c.has_set.result c.has_set.ensures (search rules)))
    a.c a.columns _ _ _ _ c.keep_seen.ensures

pub returns : goal.returns
returns c =
    let a = c.args in
    let sets = letter_sets a.image.now in
    let column = sides_of a.column in
    let lexical = a.pairs.now.lexical in
    let surface = a.pairs.now.surface in
    let l = c.seen in
    let s = c.seen-2 in
    passed_same meets (matches sets) column lexical surface l.result s.result a.n
    (seen_column sets column lexical surface l.result s.result a.n l.ensures s.ensures)
    a.c a.columns _ _ _ _ c.keep_seen-2.ensures
