-- `fold` meets its contract: the table in code is the definition's.
use Rattle.std.proofs.Common.{sym}
use Rattle.folding.specs.Folding.{lower_case}
use Rattle.folding.proofs.Folding.{fold_below, fold_above}
use Rattle.folding.proofs.fold.Goals as goal

pub returns-then-c-lt384 : goal.returns-then-c-lt384
unfolding lower_case
returns-then-c-lt384 c = sym (fold_below c.args.c c.if-c-lt384.true)

pub returns : goal.returns
returns c = sym (fold_above c.args.c c.if-c-lt384.false)
