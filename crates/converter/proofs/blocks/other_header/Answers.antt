-- `other_header` meets its contract: there are two forms, so that 3 less the one is the other, and no count moves.
use mathlib.Core.Path.{refl}
use Rattle.conversion.specs.Conversion.{other_header}
use Rattle.converter.proofs.blocks.other_header.Goals as goal

pub returns : goal.returns
unfolding other_header
returns c = refl
