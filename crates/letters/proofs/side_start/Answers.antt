-- `side_start` meets its contract: what it adds up is where the record begins and the byte's place in it.
use mathlib.Core.Path.{◌≡◌, ap, ◌∙◌}
use native.Mathlib.Omega.{arith}
use Prim.Native.Nat.{ℕ, ◌+◌, ◌*◌, ◌<◌}
use Rattle.model.specs.Blocks.{record_start}
use Rattle.image.specs.Header.{header_of}
use Rattle.letters.proofs.Laws.{pair_start, pair_end}
use Rattle.letters.proofs.side_start.Goals as goal

module _ (c : goal.After-width) where
  -- where the pair's record begins, by the width told
  begins : 1028 + c.width.result * c.args.p ≡ record_start (header_of c.args.h) 3 c.args.p
  begins = ap (λ (n : ℕ). 1028 + n * c.args.p) c.width.ensures ∙ pair_start (header_of c.args.h) c.requires.limited c.args.p c.requires.p_lt_pairs.0

  small : 1028 + c.width.result * c.args.p + c.args.side < 65536
  small = omega (arith, begins, pair_end (header_of c.args.h) c.requires.limited c.args.p c.requires.p_lt_pairs.0)

pub overflow_mul-result : goal.overflow_mul-result
overflow_mul-result c = omega (arith, small c)

pub overflow_add-result : goal.overflow_add-result
overflow_add-result c = omega (arith, small c)

pub overflow_add-result-2 : goal.overflow_add-result-2
overflow_add-result-2 c = omega (arith, small c)

pub returns : goal.returns
returns c = omega (arith, begins c)
