-- `stop` meets its contract.
use Rattle.listing.proofs.Places.{stopped_node, stopped_stands}
use Rattle.listing.proofs.place.stop.Goals as goal

pub returns : goal.returns
returns c = record { go = stopped_node c.args.place; stands = stopped_stands c.args.place }
