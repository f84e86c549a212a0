-- `headwords_check` meets its contract.
use mathlib.Core.Path.{sym, ap, ◌∙◌}
use Rattle.grammar.specs.Answers.{verdict_of}
use Rattle.headwords.specs.Numbers.{verdict_number}
use Rattle.headwords.proofs.headwords_check.Goals as goal

pub returns-in-Ok : goal.returns-in-Ok
returns-in-Ok c = ap verdict_number (sym (ap verdict_of c.in-Ok.is) ∙ c.check.ensures)

pub returns-in-Err : goal.returns-in-Err
returns-in-Err c = c.refusal_number.ensures ∙ ap verdict_number (sym (ap verdict_of c.in-Err.is) ∙ c.check.ensures)
