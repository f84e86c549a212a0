-- `without` meets its contract: a power of two whose digit is there is at most the number, so that nothing wraps.
use native.Mathlib.Omega.{arith}
use mathlib.Core.Path.{◌≡◌, ap, ◌∙◌}
use Prim.Native.Nat.{ℕ, ◌*◌, ◌-◌, ◌%◌, ◌^◌, ◌<◌}
use lib.Pow.{shl_exact}
use lib.Dec.{lit<}
use Rattle.digits.proofs.Bits.{digit_most}
use Rattle.digits.proofs.without.Goals as goal

one_at : (i : ℕ) → i < 64 → (1 * 2 ^ i) % 2 ^ 64 ≡ 2 ^ i
one_at i h = shl_exact {a = 1} 1 i 64 (lit< tt) (omega arith) ∙ omega arith

pub overflow_shl-result : goal.overflow_shl-result
overflow_shl-result c = c.requires.1

pub overflow_sub-result : goal.overflow_sub-result
overflow_sub-result c = omega (arith, digit_most c.args.bits c.args.x c.requires.0, one_at c.args.x c.requires.1)

pub returns : goal.returns
returns c = ap (λ (n : ℕ). c.args.bits - n) (one_at c.args.x c.requires.1)
