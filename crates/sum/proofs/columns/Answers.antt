-- `columns` meets its contract: the columns passed have their sums.
use native.Mathlib.Omega.{arith}
use mathlib.Core.Path.{◌≡◌, subst}
use Prim.Native.Nat.{ℕ}
use Rattle.sum.proofs.Sums.{filled_none, filled_one}
use Rattle.sum.proofs.columns.Invariants.{AllFilled}
use Rattle.sum.proofs.columns.Goals as goal

pub loop-c-init : goal.loop-c-init
loop-c-init c = (filled_none, (filled_none, filled_none))

pub loop-c-preserved : goal.loop-c-preserved
loop-c-preserved c =
    let all = c.loop-c.invariant in
    let is = c.column-k.ensures in
    (filled_one all.0 (omega arith) _ is.0, (filled_one all.1.0 (omega arith) _ is.1.0, filled_one all.1.1 (omega arith) _ is.1.1))

pub returns : goal.returns
returns c =
    let all : c.loop-c.c ≡ 8 = omega arith in
    subst (λ (n : ℕ). AllFilled c.args.block.now n c.loop-c.sums c.loop-c.rows c.loop-c.strips) all c.loop-c.invariant
