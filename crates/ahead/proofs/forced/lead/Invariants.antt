use Prim.Native.Nat.{◌-◌}
use mathlib.Core.Path.{◌≡◌}
use lib.ListN.{length}
use Rattle.model.specs.Query.{Pattern}
use Rattle.image.specs.Header.{header_of}
use Rattle.listing.specs.Asked.{word_query}
use Rattle.ahead.specs.Forced.{ForcedTo}
use Rattle.ahead.proofs.forced.lead.Given as goal

abbrev pub invariant-loop-at : goal.invariant-loop-at
invariant-loop-at l = (length l.way.pairing ≡ 40) × ((t : Pattern) → ForcedTo l.image l.index (header_of l.h) (word_query l.asked l.word t) l.initial.at l.initial.way l.at l.way)

abbrev pub decreases-loop-at : goal.decreases-loop-at
decreases-loop-at l = 40 - l.way.pairs
