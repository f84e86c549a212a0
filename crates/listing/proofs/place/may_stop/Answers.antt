-- `may_stop` meets its contract: not where no entry is open, and then by the entry's mark.
use native.Mathlib.Omega.{arith}
use mathlib.Core.Logic.{⊎_elim}
use mathlib.Core.Path.{◌≡◌, ap, subst}
use borrow.Author.Tests.{le-ltb}
use mathlib.Core.Path.{◌∙◌}
use Prim.Native.Nat.{◌<◌}
use Rattle.model.specs.Blocks.{Header}
use Rattle.model.specs.Lexicon.{entry, may_stop}
use Rattle.listing.specs.Places.{ended}
use Rattle.listing.proofs.Places.{stops_none, stops_entry}
use Rattle.listing.proofs.place.may_stop.Goals as goal
use Rattle.listing.proofs.place.may_stop.Goals.{Then-place-lt-ENDED}

-- past the test, the last entry is one of the image
last_in : (c : Then-place-lt-ENDED) → c.args.place.last < c.args.h.entries
last_in c =
    ⊎_elim (λ e. absurd (omega (arith, c.if-place-lt-ENDED.true, e)))
    (λ r. ⊎_elim (λ e. absurd (omega (arith, c.if-place-lt-ENDED.true, e))) (λ l. omega (arith, l, ap (λ (g : Header). g.entries) c.requires.accepted.laid.header_is)) r)
    c.requires.standing.last_right

pub ways_of-requires : goal.ways_of-requires
ways_of-requires c = record { laid = c.requires.accepted.laid; e_lt_entries = last_in c }

pub returns-then-place-lt-ENDED : goal.returns-then-place-lt-ENDED
returns-then-place-lt-ENDED c =
    let image = c.args.image.now in
    let last = c.args.place.last in
    stops_entry image last c.if-place-lt-ENDED.true c.ways_of.result.stop
    (subst (λ (g : Header). c.ways_of.result.stop ≡ may_stop (entry image last) g.form) c.requires.accepted.laid.header_is c.ways_of.ensures.stop)

pub returns-else-place-lt-ENDED : goal.returns-else-place-lt-ENDED
returns-else-place-lt-ENDED c = le-ltb c.args.place.last ended c.if-place-lt-ENDED.false ∙ stops_none c.args.image.now c.args.place.last c.if-place-lt-ENDED.false
