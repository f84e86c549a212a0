-- Each bit of the one number or the other.
use Rattle.relations.proofs.Bits.{holds_or}
use Rattle.relations.proofs.places.union.Goals as goal

pub returns : goal.returns
returns c = holds_or c.args.one c.args.two
