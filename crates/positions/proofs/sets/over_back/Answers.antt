-- `positions::sets::over_back` meets its contract.
use mathlib.Core.Path.{refl}
use Rattle.positions.specs.Masks.{back_over_mask}
use Rattle.positions.proofs.sets.over_back.Goals as goal

pub returns-then-deletes : goal.returns-then-deletes
unfolding back_over_mask
returns-then-deletes c = rw c.if-deletes.true refl

pub returns-else-deletes : goal.returns-else-deletes
unfolding back_over_mask
returns-else-deletes c = rw c.if-deletes.false refl
