-- A text that holds a byte has a first line, up to its first line end or to the end of the text.
use borrow.Author.Tests.{eqb-false}
use mathlib.Core.Path.{sym, ◌∙◌}
use lib.ListN.{length}
use Rattle.rule_texts.proofs.Each.{first_cut, first_uncut}
use Rattle.rule_texts.proofs.text.first_line.Goals as goal

pub returns-in-Some : goal.returns-in-Some
returns-in-Some c =
    let t = c.args.text.now in
    first_cut t c.in-Some.line.now c.in-Some.rest.now (eqb-false (length t) 0 (sym c.is_empty.ensures ∙ c.if-is_empty.false)) c.in-Some.ensures

pub returns-in-None : goal.returns-in-None
returns-in-None c =
    let t = c.args.text.now in
    first_uncut t (eqb-false (length t) 0 (sym c.is_empty.ensures ∙ c.if-is_empty.false)) c.in-None.ensures
