-- `records_at` meets its contract, by the table.
use native.Mathlib.Omega.{arith}
use native.Mathlib.Nat.{mul-le-mul, div-le_self}
use mathlib.Core.Path.{◌≡◌, sym, ap, ◌∙◌}
use Prim.Native.Nat.{ℕ, ◌*◌, ◌-◌, ◌≤◌, min}
use Rattle.model.specs.Blocks.{Header, record_width, per_block, in_all, kind_at, first_block, records_at}
use Rattle.image.specs.Header.{header_of}
use Rattle.layout.proofs.records_at.Goals as goal

-- by what is told of the kind of block k
module _ (h : Header) (kind k most all first : ℕ) (here : kind ≡ kind_at h k) (e1 : most ≡ per_block h kind) (e2 : all ≡ in_all h kind) (e3 : first ≡ first_block h kind) where
  records : records_at h k ≡ min most (all - most * (k - first))
  unfolding records_at
  records =
      ap (λ (kind : ℕ). min (per_block h kind) (in_all h kind - per_block h kind * (k - first_block h kind))) (sym here)
      ∙ (λ i. min (sym e1 i) (sym e2 i - sym e1 i * (k - sym e3 i)))

-- what the blocks before it hold
before_most : (h : Header) (kind most n : ℕ) → most ≡ per_block h kind → n ≤ 128 → most * n ≤ 506 * 128
before_most h kind most n e few = mul-le-mul {n₁ = most} {m₁ = n} {n₂ = 506} {m₂ = 128} (omega (arith, div-le_self 506 (record_width h kind), e)) few

pub overflow_mul-before : goal.overflow_mul-before
overflow_mul-before c = omega (arith, before_most (header_of c.args.h) _ _ (c.args.k - c.first_block.result) c.per_block-most.ensures (omega arith))

pub returns : goal.returns
returns c =
    let least = c.min.ensures in
    let left = c.saturating_sub.ensures in
    let most = c.per_block-most.ensures in
    let all = records (header_of c.args.h) _ _ _ _ _ c.requires.placed.0.kind_is c.per_block-most.ensures c.in_all-all.ensures c.first_block.ensures in
    (omega (arith, all), omega arith)
