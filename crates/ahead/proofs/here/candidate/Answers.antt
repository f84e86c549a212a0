-- `candidate` meets its contract.
use native.Mathlib.Omega.{arith}
use mathlib.Core.Path.{◌∙◌, subst, sym}
use Prim.Native.Nat.{ℕ, ◌<◌}
use Rattle.ahead.proofs.Candidates.{pair_inside, pair_is, pair_below}
use Rattle.ahead.proofs.here.candidate.Goals as goal

pub overflow_add-a-3 : goal.overflow_add-a-3
overflow_add-a-3 c = omega (arith, pair_inside c.requires.accepted c.requires.index_value c.requires.a_le_letters.0 c.requires.a_le_letters.1, c.ranges)

pub byte_at-requires : goal.byte_at-requires
byte_at-requires c = pair_inside c.requires.accepted c.requires.index_value c.requires.a_le_letters.0 c.requires.a_le_letters.1

pub returns : goal.returns
returns c =
    let e = c.byte_at.ensures.0 ∙ pair_is c.requires.accepted c.requires.index_value c.requires.a_le_letters.0 c.requires.a_le_letters.1 in
    (e, subst (λ (x : ℕ). x < c.args.h.pairs) (sym e) (pair_below c.requires.accepted c.requires.index_value c.requires.a_le_letters.0 c.requires.a_le_letters.1))
