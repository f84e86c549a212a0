-- `only_stops` meets its contract: an entry that ends a path and names no lexicon.
use native.Mathlib.Omega.{arith}
use mathlib.Core.Logic.{⊎_elim}
use mathlib.Core.Path.{◌≡◌, sym, ap, ◌∙◌, subst}
use Prim.Native.Nat.{ℕ, ◌<◌}
use Rattle.model.specs.Blocks.{Header, header}
use Rattle.model.specs.Lexicon.{entry, may_stop, goes_to}
use Rattle.digits.specs.Ways.{Names}
use Rattle.listing.proofs.Places.{stops_entry, only_stops}
use Rattle.listing.proofs.place.only_stops.Goals as goal
use Rattle.listing.proofs.place.only_stops.Goals.{Else-place-ge-ENDED}

-- past the test, the last entry is one of the image
last_in : (c : Else-place-ge-ENDED) → c.args.place.last < c.args.h.entries
last_in c =
    ⊎_elim (λ e. absurd (omega (arith, c.if-place-ge-ENDED.false, e)))
    (λ r. ⊎_elim (λ e. absurd (omega (arith, c.if-place-ge-ENDED.false, e))) (λ l. omega (arith, l, ap (λ (g : Header). g.entries) c.requires.accepted.laid.header_is)) r)
    c.requires.standing.last_right

pub ways_of-ways-requires : goal.ways_of-ways-requires
ways_of-ways-requires c = record { laid = c.requires.accepted.laid; e_lt_entries = last_in c }

pub returns-then-ways-eq0 : goal.returns-then-ways-eq0
returns-then-ways-eq0 c =
    let image = c.args.image.now in
    let last = c.args.place.last in
    let short = c.if-place-ge-ENDED.false in
    let same = c.requires.accepted.laid.header_is in
    let names = subst (λ (n : ℕ). Names (goes_to (entry image last) (header image).form) n) c.if-ways-eq0.true
    (subst (λ (g : Header). Names (goes_to (entry image last) g.form) c.ways_of-ways.result.bits) same c.ways_of-ways.ensures.bits) in
    let stops = stops_entry image last short c.ways_of-ways.result.stop (subst (λ (g : Header). c.ways_of-ways.result.stop ≡ may_stop (entry image last) g.form) same c.ways_of-ways.ensures.stop) in
    λ t. only_stops image last short (omega (arith, c.requires.accepted.laid.limits.lexicons_most, ap (λ (g : Header). g.lexicons) same)) names (sym stops ∙ t)
