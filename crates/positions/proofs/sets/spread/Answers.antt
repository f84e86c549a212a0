-- `positions::sets::spread` meets its contract: as many rounds as are left lead from what is had to all; a round that changes nothing was the last that could.
use Prim.Native.Nat.{ℕ, ◌-◌, ◌*◌}
use native.Mathlib.Omega.{arith}
use native.Mathlib.Numerals.{add-one}
use mathlib.Core.Path.{◌≡◌, refl, sym, ap, ◌∙◌}
use lib.Bits.{bit_and, bit_or}
use Rattle.positions.specs.Masks.{spread_mask}
use Rattle.positions.proofs.Rounds.{double_in, wider_in, still, round_on, spread_none, spread_one}
use Rattle.positions.proofs.sets.spread.Goals as goal

abbrev step : ℕ → ℕ → ℕ
step inserts m = bit_or m (2 * bit_and m inserts)

pub loop-k-init : goal.loop-k-init
loop-k-init c = record { in_word = c.requires.1; rounds = refl }

pub overflow_mul-more : goal.overflow_mul-more
overflow_mul-more c = omega (arith, double_in c.args.inserts c.loop-k.all c.requires.0 c.loop-k.invariant.in_word)

pub returns-then-more-all : goal.returns-then-more-all
returns-then-more-all c =
    let i = c.args.inserts in
    (sym (still (step i) (λ t. spread_mask t i) (spread_none i) (spread_one i) (8 - c.loop-k._k) c.loop-k.all c.if-more-all.true) ∙ c.loop-k.invariant.rounds, c.loop-k.invariant.in_word)

pub loop-k-preserved : goal.loop-k-preserved
loop-k-preserved c =
    let i = c.args.inserts in
    record {
      in_word = wider_in i c.loop-k.all c.requires.0 c.loop-k.invariant.in_word;
      rounds =
          ap (λ (k : ℕ). spread_mask (8 - k) i (step i c.loop-k.all)) (add-one c.loop-k._k)
          ∙ round_on (step i) (λ t. spread_mask t i) (spread_none i) (spread_one i) c.loop-k._k c.loop-k.all (step i c.loop-k.all) c.loop-k-test.true refl ∙ c.loop-k.invariant.rounds;
    }

pub returns : goal.returns
returns c =
    let i = c.args.inserts in
    let none : 8 - c.loop-k._k ≡ 0 = omega (arith, c.loop-k-test.false) in
    (sym (spread_none i c.loop-k.all) ∙ ap (λ (t : ℕ). spread_mask t i c.loop-k.all) (sym none) ∙ c.loop-k.invariant.rounds, c.loop-k.invariant.in_word)
