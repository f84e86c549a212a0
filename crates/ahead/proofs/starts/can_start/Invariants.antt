use Rattle.model.specs.Query.{Pattern}
use Rattle.listing.specs.Asked.{word_query}
use Rattle.ahead.proofs.FirstLetters.{Left}
use Rattle.ahead.proofs.starts.can_start.Given as goal

abbrev pub invariant-loop-k : goal.invariant-loop-k
invariant-loop-k l = (t : Pattern) → Left l.image (word_query l.asked l.word t) l.place l.letter.0 l.k
