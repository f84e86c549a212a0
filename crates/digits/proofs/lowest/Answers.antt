-- `lowest` meets its contract: trailing zeros are the digits below the lowest one, and a number above 0 has one.
use native.Mathlib.Omega.{arith}
use native.Mathlib.Decide.{dec_lt}
use mathlib.Core.Bool.{false}
use mathlib.Core.Path.{◌≡◌, subst}
use Prim.Native.Nat.{ℕ, ◌<◌, ◌^◌}
use lib.Count.{count_trailing_zeros}
use lib.Dec.{T}
use Rattle.model.specs.Lists.{bit}
use Rattle.digits.proofs.Bits as digits
use Rattle.digits.proofs.lowest.Goals as goal

-- a digit that stands is one of the 64
few : (n x : ℕ) → n < 2 ^ 64 → T (bit n x) → x < 64
few n x small t = go (dec_lt x 64)
  where
    go : Dec (x < 64) → x < 64
    go (yes l) = l
    go (no l) = absurd (subst T (digits.digits_few 64 n small x (omega arith)) t)

abbrev place : goal.Start → ℕ
place c = count_trailing_zeros 64 c.args.bits

found : (c : goal.Start) → T (bit c.args.bits (place c)) × ((y : ℕ) → y < place c → bit c.args.bits y ≡ false)
found c = digits.lowest 64 c.args.bits c.requires (omega arith)

in_set : (c : goal.Start) → place c < 64
in_set c = few c.args.bits (place c) (omega arith) (found c).0

pub overflow_cast-result : goal.overflow_cast-result
overflow_cast-result c = omega (arith, in_set c)

pub returns : goal.returns
returns c = (record { there = (found c).0; none_below = (found c).1 }, in_set c)
