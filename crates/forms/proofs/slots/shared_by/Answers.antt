-- `forms::slots::shared_by` meets its contract.
use Prim.Native.Nat.{ℕ, ◌+◌, ◌*◌, ◌≤◌}
use native.Mathlib.Omega.{arith}
use mathlib.Core.Path.{◌≡◌, ap}
use lib.ListN.{get_or}
use Rattle.forms.proofs.SlotLaws.{shares_of}
use Rattle.forms.proofs.slots.shared_by.Goals as goal
use Rattle.forms.proofs.slots.shared_by.Goals.{After-byte_at-m}

-- both forms have at most 12 letters
short : (c : After-byte_at-m) → (c.byte_at-n.result ≤ 12) × (c.byte_at-m.result ≤ 12)
short c =
    let slots = c.args.slots.now in
    let next : 16 * (c.args.i + 1) ≡ 16 * c.args.i + 16 = omega arith in
    (omega (arith, c.byte_at-n.ensures.0, c.requires.i_bound.0), omega (arith, c.byte_at-m.ensures.0, c.requires.i_bound.1, ap (λ (j : ℕ). get_or slots j 0) next))

pub common-requires : goal.common-requires
common-requires c = omega (arith, short (goal.at.common-requires c).After-byte_at-m, c.min.ensures, c.requires.slots_len)

pub returns : goal.returns
returns c =
    let few = short (goal.at.returns c).After-byte_at-m in
    shares_of c.args.slots.now c.args.i c.byte_at-n.result c.byte_at-m.result c.common.result c.requires.slots_len.0
    (omega (arith, c.requires.slots_len.1)) c.byte_at-n.ensures.0 c.byte_at-m.ensures.0 few.0 few.1
    (omega (arith, c.common.ensures.0, c.min.ensures)) (omega (arith, c.common.ensures.0, c.min.ensures)) c.common.ensures.1
