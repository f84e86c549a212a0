-- The set begins with no place.
use mathlib.Core.Bool.{true}
use Rattle.relations.proofs.Counting.{count_begun}
use Rattle.matching.proofs.context.all_places.Goals as goal

pub loop-j-init : goal.loop-j-init
loop-j-init c = count_begun (λ k. true)
