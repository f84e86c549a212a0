-- `slot_of` meets its contract: a remainder is less than the number of slots.
use native.Mathlib.Nat.{mod-lt, le_refl, mul-suc, mul-le-mul, mul-div-le, le-div_iff_mul-le}
use native.Mathlib.Omega.{arith}
use Prim.Native.Nat.{ℕ, suc, ◌+◌, ◌*◌, ◌<◌, ◌≤◌, ◌/◌, ◌%◌}
use lib.ListN.{length}
use Rattle.dead.proofs.slot_of.Goals as goal

-- there is a slot
some : (size width : ℕ) → 1 ≤ width → width ≤ size → 0 < size / width
some size width h fits = (le-div_iff_mul-le {k = width} {x = 1} {y = size} h).1 (omega arith)

inside : (size width x : ℕ) → 1 ≤ width → width ≤ size → width * (x % (size / width)) + width ≤ size
inside size width x h fits =
    let k = x % (size / width) in
    let less : k < size / width = mod-lt x {m = size / width} (some size width h fits) in
    omega (arith, mul-suc width k, mul-le-mul {n₁ = width} {m₁ = suc k} {n₂ = width} {m₂ = size / width} (le_refl width) less, mul-div-le size width)

pub nonzero_rem-result : goal.nonzero_rem-result
nonzero_rem-result c = some c.args.size (length c.args.key.now) c.requires.0 c.requires.1

pub returns : goal.returns
returns c = inside c.args.size (length c.args.key.now) c.hash_of.result c.requires.0 c.requires.1
