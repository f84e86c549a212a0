-- `positions::sets::spread_back` meets its contract: as many rounds as are left lead from what is had to all; a round that changes nothing was the last that could.
use Prim.Native.Nat.{ℕ, ◌-◌, ◌/◌}
use native.Mathlib.Omega.{arith}
use native.Mathlib.Numerals.{add-one}
use mathlib.Core.Path.{◌≡◌, refl, sym, ap, ◌∙◌}
use lib.Bits.{bit_and, bit_or}
use Rattle.positions.specs.Masks.{back_spread_mask}
use Rattle.positions.proofs.Rounds.{still, round_on, back_none, back_one}
use Rattle.positions.proofs.sets.spread_back.Goals as goal

abbrev step : ℕ → ℕ → ℕ
step inserts m = bit_or m (bit_and (m / 2) inserts)

pub loop-k-init : goal.loop-k-init
loop-k-init c = refl

pub returns-then-more-all : goal.returns-then-more-all
returns-then-more-all c =
    let i = c.args.inserts in
    sym (still (step i) (λ t. back_spread_mask t i) (back_none i) (back_one i) (8 - c.loop-k._k) c.loop-k.all c.if-more-all.true) ∙ c.loop-k.invariant

pub loop-k-preserved : goal.loop-k-preserved
loop-k-preserved c =
    let i = c.args.inserts in
    ap (λ (k : ℕ). back_spread_mask (8 - k) i (step i c.loop-k.all)) (add-one c.loop-k._k)
    ∙ round_on (step i) (λ t. back_spread_mask t i) (back_none i) (back_one i) c.loop-k._k c.loop-k.all (step i c.loop-k.all) c.loop-k-test.true refl ∙ c.loop-k.invariant

pub returns : goal.returns
returns c =
    let i = c.args.inserts in
    let none : 8 - c.loop-k._k ≡ 0 = omega (arith, c.loop-k-test.false) in
    sym (back_none i c.loop-k.all) ∙ ap (λ (t : ℕ). back_spread_mask t i c.loop-k.all) (sym none) ∙ c.loop-k.invariant
