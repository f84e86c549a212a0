-- `column_at` meets its contract: the columns stand from byte 2 on.
use mathlib.Core.Path.{◌∙◌}
use Rattle.sets.proofs.Pairs.{column_from}
use Rattle.sets.proofs.sides.column_at.Goals as goal

pub returns : goal.returns
returns c = let a = c.args in c.sides_at.ensures ∙ column_from a.t.now a.c
