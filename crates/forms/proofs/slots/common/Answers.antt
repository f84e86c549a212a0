-- `forms::slots::common` meets its contract: the bytes before k are the same, and k is the first that is not.
use mathlib.Core.Path.{sym}
use borrow.Author.Count.{below_more}
use Rattle.forms.proofs.slots.common.Goals as goal

pub loop-k-preserved : goal.loop-k-preserved
loop-k-preserved c = below_more _ _ c.loop-k.invariant (sym c.if-bytes-a.false)
