-- `next_entry` meets its contract, by whether the range has one more.
use Rattle.listing.proofs.Ranges.{next_here, next_past}
use Rattle.listing.proofs.opening.next_entry.Goals as goal

pub returns-then-from-ways : goal.returns-then-from-ways
returns-then-from-ways c =
    λ may w. next_here c.args.image.now may c.args.ways w c.args.from c.requires.low_le_from.0 c.if-from-ways.true

pub next_of_set-requires : goal.next_of_set-requires
next_of_set-requires c =
    record { accepted = c.requires.accepted; index_value = c.requires.index_value; known = (c.requires.known, c.requires.low_le_from.1) }

pub returns : goal.returns
returns c =
    λ may w. next_past c.args.image.now may c.args.ways w c.args.from c.if-from-ways.false c.next_of_set.ensures
