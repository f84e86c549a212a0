use Prim.Native.Nat.{ℕ, ◌+◌}
use mathlib.Core.Bool.{Bool}
use mathlib.Core.Path.{◌≡◌}
use mathlib.Core.List.{List}
use lib.ListN.{drop}
use Rattle.model.specs.Lists.{any}
use Rattle.model.specs.RuleTables.{pairs, same_pair}
use Rattle.letters.proofs.Laws.{pair_at}
use Rattle.letters.proofs.pair_alone.Given as goal

-- one of the pairs from q on is the same as pair p
abbrev pub again : List ℕ → ℕ → ℕ → Bool
again image p q = any (same_pair (pair_at image p)) (drop q (pairs image))

abbrev pub invariant-loop-q : goal.invariant-loop-q
invariant-loop-q l = again l.image l.p (l.p + 1) ≡ again l.image l.p l.q
