-- `headwords_judge` meets its contract.
use mathlib.Core.Path.{ap, ◌∙◌}
use Rattle.headwords.specs.Numbers.{judgement_number}
use Rattle.headwords.proofs.headwords_judge.Goals as goal

pub returns : goal.returns
returns c = c.judgement_number.ensures ∙ ap judgement_number c.judge.ensures
