use Rattle.sets.specs.Sides.{pair_number}
use Rattle.sets.proofs.Written.{Written}
use Rattle.columns.proofs.pair_sides.Given as goal

abbrev pub invariant-loop-p : goal.invariant-loop-p
invariant-loop-p l =
    Written (λ q. (pair_number l.image q).lexical) l.initial.lexical l.p l.lexical
    × Written (λ q. (pair_number l.image q).surface) l.initial.surface l.p l.surface
