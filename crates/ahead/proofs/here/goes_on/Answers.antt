-- `goes_on` meets its contract: the path has ended, or can only end, or an entry may open.
use borrow.Author.Tests.{le-leb, ne_eqb}
use mathlib.Core.Path.{refl}
use Rattle.listing.specs.Places.{ended}
use Rattle.ahead.specs.Here.{opens_at}
use Rattle.ahead.proofs.here.goes_on.Goals as goal

pub returns-then-place-ne-ENDED-clause-on : goal.returns-then-place-ne-ENDED-clause-on
unfolding opens_at
returns-then-place-ne-ENDED-clause-on c t =
    let place = c.args.place in
    rw (le-leb place.to place.from c.requires.standing.1, ne_eqb place.last ended c.if-place-ne-ENDED.true) refl
