-- The bit that is read is the definition.
use mathlib.Core.Path.{refl}
use Rattle.relations.specs.Sets.{holds}
use Rattle.relations.proofs.places.has.Goals as goal

pub returns : goal.returns
unfolding holds
returns c = refl
