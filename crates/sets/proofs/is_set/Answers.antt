-- `is_set` meets its contract: the byte that has letter L, and then those after it.
use borrow.Author.Rules.{rules}
use native.Mathlib.Omega.{arith}
use mathlib.Core.Path.{sym, ◌∙◌}
use borrow.Author.Tests.{lt-leb}
use Rattle.model.proofs.Booleans.{false_of}
use Rattle.model.specs.RuleTables.{is_set}
use Rattle.sets.proofs.LetterSets.{last_low, rest_tested}
use Rattle.sets.proofs.is_set.Goals as goal

pub returns-then-set-last-le1 : goal.returns-then-set-last-le1
returns-then-set-last-le1 c =
    let a = c.args in
    c.is_blank.ensures ∙ rest_tested a.letters a.set.now c.requires.letters_bound c.requires.size (λ j. search rules) c.if-set-last-le1.true

pub returns-else-set-last-le1 : goal.returns-else-set-last-le1
returns-else-set-last-le1 c =
    let a = c.args in
    lt-leb _ 1 c.if-set-last-le1.false
    ∙ sym (false_of (is_set a.letters a.set.now) (λ t. absurd (omega (arith, c.if-set-last-le1.false, last_low a.letters a.set.now c.requires.letters_bound t (search rules)))))
