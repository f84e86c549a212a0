-- `judgement_number` meets its contract.
use mathlib.Core.Path.{sym, ap, ◌∙◌}
use Rattle.judge.specs.Answers.{judgement_of}
use Rattle.headwords.specs.Numbers.{judgement_number}
use Rattle.headwords.proofs.judgement_number.Goals as goal

pub returns-in-Err : goal.returns-in-Err
returns-in-Err c = c.refusal_number.ensures ∙ ap judgement_number (sym (ap judgement_of c.in-Err.is))
