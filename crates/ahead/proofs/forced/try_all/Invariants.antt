use Rattle.model.specs.Query.{Pattern}
use Rattle.image.specs.Index.{candidates}
use Rattle.listing.specs.Asked.{word_query}
use Rattle.ahead.specs.Forced.{TriedOf}
use Rattle.ahead.proofs.forced.try_all.Given as goal

abbrev pub invariant-loop-k : goal.invariant-loop-k
invariant-loop-k l = (t : Pattern) → TriedOf l.image (word_query l.asked l.word t) l.place (candidates l.image l.letter.0) l.k l.tried
