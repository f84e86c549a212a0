-- The whole sum of a block, 1 included, is at most 33,227,776, and 510 bytes of 255 meet it: 32 bits hold it with no remainder taken on the way.
use Prim.Native.Nat.{ℕ, zero, suc, ◌+◌, ◌*◌, ◌<◌, ◌≤◌}
use native.Mathlib.Nat.{mul-le-mul}
use native.Mathlib.Omega.{arith}
use mathlib.Core.Path.{◌≡◌, refl}
use mathlib.Core.List.{List, [], ◌∷◌}
use lib.ListN.{take, replicate}
use Rattle.model.specs.Lists.{byte}
use Rattle.model.specs.Blocks.{weighted_sum}
use Rattle.model.proofs.Computed.{computed}

-- no byte is above 255, and there may be fewer bytes
sum_most : (i n m : ℕ) (l : List ℕ) → n ≤ m → ((j : ℕ) → byte l j < 256) → weighted_sum i (take n l) ≤ weighted_sum i (replicate m 255)
unfolding weighted_sum
sum_most i zero m l k h = omega arith
sum_most i (suc n) zero l k h = absurd (omega arith)
sum_most i (suc n) (suc m) [] k h = omega arith
sum_most i (suc n) (suc m) (b ∷ l) k h =
    let term : suc i * b ≤ suc i * 255 = mul-le-mul {n₁ = suc i} {m₁ = b} {n₂ = suc i} {m₂ = 255} (omega arith) (omega (arith, h 0)) in
    omega (arith, term, sum_most (suc i) n m l (omega arith) (λ j. h (suc j)))

-- 510 bytes of 255
pub block_sum_there : 1 + weighted_sum 0 (replicate 510 255) ≡ 33227776
unfolding computed
block_sum_there = refl

module _ (b : List ℕ) (bytes : (i : ℕ) → byte b i < 256) where
  -- and at no byte on the way more
  pub begun_sum_most : (n : ℕ) → n ≤ 510 → 1 + weighted_sum 0 (take n b) ≤ 33227776
  begun_sum_most n h = omega (arith, sum_most 0 n 510 b h bytes, block_sum_there)

  -- "the whole sum being at most 33,227,776": of every block of bytes
  pub block_sum_most : 1 + weighted_sum 0 (take 510 b) ≤ 33227776
  block_sum_most = begun_sum_most 510 (omega arith)
