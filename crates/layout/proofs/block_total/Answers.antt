-- `block_total` meets its contract: the entries stand last, in as many blocks as their count asks for, rounded up.
use native.Mathlib.Omega.{arith}
use native.Mathlib.Nat.{div-le_self, add-mul}
use mathlib.Core.Path.{◌≡◌, sym, ap, ◌∙◌}
use Prim.Native.Nat.{ℕ, ◌+◌, ◌-◌, ◌/◌, ◌%◌, ◌<◌, ◌≤◌, min}
use Rattle.std.proofs.Math.Nat.{div-eq_of_lt-le}
use Rattle.std.proofs.lemmas.Grind.{div_ceil_times}
use Rattle.model.specs.Blocks.{Header, kinds, entry_width, per_block, first_block, block_total}
use Rattle.image.specs.Laid.{Counted}
use Rattle.image.specs.Header.{header_of}
use Rattle.image.proofs.Records.{some_fit, entry_wide}
use Rattle.layout.proofs.block_total.Goals as goal

-- a quotient rounded up, without a remainder
rounded : (a b : ℕ) → 0 < b → a / b + min 1 (a % b) ≡ (a + (b - 1)) / b
rounded a b h =
    let k = a / b + min 1 (a % b) in
    let t = div_ceil_times a b h in
    sym (div-eq_of_lt-le {k = k} b {m = a + (b - 1)} (omega (arith, t.1)) (omega (arith, t.0, add-mul k 1 b)))

-- by what the table of kinds tells
module _ (h : Header) (limits : Counted h) (most first : ℕ) (e1 : most ≡ per_block h 6) (e2 : first ≡ first_block h 6) where
  fits : (w : ℕ) → 16 ≤ w → w ≤ 24 → (1 ≤ 506 / w) × (506 / w ≤ 506)
  fits w wide narrow = (some_fit w (omega arith) (omega arith), div-le_self 506 w)

  some : 1 ≤ most
  unfolding kinds
  some = let w = entry_wide h.form in omega (arith, e1, fits (entry_width h.form) w.0 w.1)

  few : most ≤ 506
  unfolding kinds
  few = let w = entry_wide h.form in omega (arith, e1, fits (entry_width h.form) w.0 w.1)

  total_is : first + (h.entries + (most - 1)) / most ≡ block_total h
  unfolding kinds block_total
  total_is = rw (e1, e2) (omega arith)

  total_few : first + (h.entries + (most - 1)) / most ≤ 4000
  unfolding kinds
  total_few = omega (arith, e2, few, div-le_self (h.entries + (most - 1)) most, limits.rules_most, limits.entries_most, limits.sets_most)

pub div_ceil-requires : goal.div_ceil-requires
div_ceil-requires c = some (header_of c.args.h) c.requires _ _ c.per_block.ensures c.first_block.ensures

pub overflow_add-result : goal.overflow_add-result
overflow_add-result c =
    let h = header_of c.args.h in
    let most = some h c.requires _ _ c.per_block.ensures c.first_block.ensures in
    omega (arith, c.div_ceil.ensures, rounded h.entries c.per_block.result most, total_few h c.requires _ _ c.per_block.ensures c.first_block.ensures)

pub returns : goal.returns
returns c =
    let h = header_of c.args.h in
    let most = some h c.requires _ _ c.per_block.ensures c.first_block.ensures in
    ap (λ (n : ℕ). c.first_block.result + n) (c.div_ceil.ensures ∙ rounded h.entries c.per_block.result most) ∙ total_is h c.requires _ _ c.per_block.ensures c.first_block.ensures
