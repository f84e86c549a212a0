-- `list_word` meets its contract: a search that may give up is tried only where text stands before.
use native.Mathlib.Omega.{arith}
use Rattle.answers.proofs.line.list_word.Goals as goal

pub returns-clause-waits : goal.returns-clause-waits
returns-clause-waits c = λ e. omega arith
