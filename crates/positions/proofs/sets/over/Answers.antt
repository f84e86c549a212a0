-- `positions::sets::over` meets its contract.
use native.Mathlib.Omega.{arith}
use mathlib.Core.Path.{refl}
use Rattle.positions.specs.Masks.{over_mask}
use Rattle.positions.proofs.Rounds.{double_in, both_in}
use Rattle.positions.proofs.sets.over.Goals as goal

pub overflow_mul-to : goal.overflow_mul-to
overflow_mul-to c = omega (arith, double_in c.args.pairs c.args.m c.requires.0 c.requires.1)

pub returns-then-deletes : goal.returns-then-deletes
unfolding over_mask
returns-then-deletes c = (rw c.if-deletes.true refl, both_in c.args.pairs c.args.m c.requires.0 c.requires.1)

pub returns-else-deletes : goal.returns-else-deletes
unfolding over_mask
returns-else-deletes c = (rw c.if-deletes.false refl, double_in c.args.pairs c.args.m c.requires.0 c.requires.1)
