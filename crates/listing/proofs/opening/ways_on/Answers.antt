-- `ways_on` meets its contract: those of the set of lexicons that comes next.
use mathlib.Core.Bool.{Bool, ◌&&◌}
use mathlib.Core.Path.{◌≡◌, ap, ◌∙◌}
use Prim.Native.Nat.{ℕ}
use Rattle.listing.specs.Asked.{path_pattern}
use Rattle.listing.specs.Opening.{may_enter, may_enter_some}
use Rattle.listing.proofs.Ranges.{ways_as}
use Rattle.listing.proofs.opening.ways_on.Goals as goal

pub open_ways-requires : goal.open_ways-requires
open_ways-requires c = record { accepted = c.requires.accepted; index_value = c.requires.index_value; known = c.set_on-bits.ensures.known }

pub returns : goal.returns
returns c =
    let set = c.set_on-bits in
    let a = c.args in
    let t = path_pattern a.asked a.path.now in
    let same : (e : ℕ) → may_enter a.image.now t a.last a.n e ≡ may_enter_some a.image.now t set.result a.n e =
    λ e. ap (λ (b : Bool). b && t.allows a.n e) (set.ensures.some e) in
    record { ways = ways_as same c.open_ways.ensures.ways; before = λ e k. same e ∙ c.open_ways.ensures.before e k }
