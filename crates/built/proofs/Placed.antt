-- Where block k stands among the blocks of its kind, and how many records it holds: by the table of kinds alone, whatever widths it says.
use Prim.Native.Nat.{ℕ, ◌+◌, ◌*◌, ◌-◌, ◌<◌, ◌≤◌, min}
use native.Mathlib.Nat.{le_refl, mul-le-mul}
use native.Mathlib.Omega.{arith}
use native.Mathlib.Decide.{dec_lt}
use mathlib.Core.Bool.{Bool, false, not}
use mathlib.Core.Path.{◌≡◌, refl, sym, subst, ap, ◌∙◌}
use mathlib.Core.List.{List, [], ◌∷◌, map, Memᴰ}
use lib.Dec.{T, eqb, T_not}
use borrow.Author.Tests.{lt-ltb, le-ltb, eq-eqb}
use Rattle.model.specs.Lists.{sum, any, distinct}
use Rattle.model.specs.Blocks.{Header, Kind, kinds, row_of, blocks_before, kind_from, in_all, record_width, per_block, first_block, block_total, kind_at, records_at}
use Rattle.model.proofs.Booleans.{and_out, false_of}
use Rattle.model.proofs.Lists.{any_has}
use Rattle.image.proofs.Records.{fit_most}

abbrev same_kind : Kind → Kind → Bool
same_kind r s = eqb r.kind s.kind

abbrev blocks_in : List Kind → ℕ
blocks_in rs = sum (map (λ r. r.blocks) rs)

-- no kind has two rows
kinds_apart : (h : Header) → T (distinct same_kind (kinds h))
unfolding kinds
kinds_apart h = tt

module _ (k : ℕ) where
  -- a block's kind is that of some row
  pub kind_row : (rs : List Kind) (n : ℕ) → n ≤ k → k < n + blocks_in rs → (r : Kind) × Memᴰ r rs × (kind_from k n rs ≡ r.kind)
  kind_row [] n least most = absurd (omega arith)
  kind_row (r ∷ rs) n least most = go (dec_lt k (n + r.blocks)) (kind_row rs (n + r.blocks))
    where
      go : Dec (k < n + r.blocks) → (n + r.blocks ≤ k → k < n + r.blocks + blocks_in rs → (s : Kind) × Memᴰ s rs × (kind_from k (n + r.blocks) rs ≡ s.kind))
          → (s : Kind) × Memᴰ s (r ∷ rs) × (kind_from k n (r ∷ rs) ≡ s.kind)
      go (yes l) rest = (r, Memᴰ.head refl, rw (lt-ltb k (n + r.blocks) l) refl)
      go (no l) rest = let t = rest (omega arith) (omega arith) in (t.0, Memᴰ.tail t.1, rw (le-ltb k (n + r.blocks) (omega arith)) t.2)

  abbrev Among : List Kind → ℕ → ℕ → Type 0
  Among rs n kind = (blocks_before kind n rs ≤ k) × (k < blocks_before kind n rs + (row_of kind rs).blocks)

  located : (rs : List Kind) (n : ℕ) → T (distinct same_kind rs) → n ≤ k → k < n + blocks_in rs → Among rs n (kind_from k n rs)
  located [] n d least most = absurd (omega arith)
  located (r ∷ rs) n d least most = let u = and_out (not (any (same_kind r) rs)) (distinct same_kind rs) d in go (dec_lt k (n + r.blocks)) u.0 (located rs (n + r.blocks) u.1)
    where
      go : Dec (k < n + r.blocks) → T (not (any (same_kind r) rs)) → (n + r.blocks ≤ k → k < n + r.blocks + blocks_in rs → Among rs (n + r.blocks) (kind_from k (n + r.blocks) rs))
          → Among (r ∷ rs) n (kind_from k n (r ∷ rs))
      go (yes l) none rest = rw (lt-ltb k (n + r.blocks) l, eq-eqb r.kind r.kind refl) (least, l)
      go (no l) none rest =
          let t = kind_row rs (n + r.blocks) (omega arith) (omega arith) in
          let other : eqb r.kind (kind_from k (n + r.blocks) rs) ≡ false =
          ap (eqb r.kind) t.2 ∙ false_of (eqb r.kind t.0.kind) (λ s. T_not (any (same_kind r) rs) none (any_has (same_kind r) rs t.1 s)) in
          let later : kind_from k n (r ∷ rs) ≡ kind_from k (n + r.blocks) rs = rw (le-ltb k (n + r.blocks) (omega arith)) refl in
          subst (λ (kind : ℕ). Among (r ∷ rs) n kind) (sym later) (rw other (rest (omega arith) (omega arith)))

module _ (h : Header) (k : ℕ) where
  -- "those that the blocks before have left, as many as a block holds", for a kind by name
  pub records_by : {kind : ℕ} → kind_at h k ≡ kind → records_at h k ≡ min (per_block h kind) (in_all h kind - per_block h kind * (k - first_block h kind))
  unfolding records_at
  records_by e = ap (λ (kind : ℕ). min (per_block h kind) (in_all h kind - per_block h kind * (k - first_block h kind))) e

  pub records_least : records_at h k ≤ per_block h (kind_at h k)
  records_least = omega (arith, records_by refl)

  -- a record of the block is one of all
  pub records_among : (i : ℕ) → i < records_at h k → per_block h (kind_at h k) * (k - first_block h (kind_at h k)) + i < in_all h (kind_at h k)
  records_among i l = omega (arith, records_by refl)

  -- they fit into its bytes
  pub records_fit : record_width h (kind_at h k) * records_at h k ≤ 506
  records_fit =
      omega (
        arith,
        mul-le-mul {n₁ = record_width h (kind_at h k)} {m₁ = records_at h k} {n₂ = record_width h (kind_at h k)} {m₂ = per_block h (kind_at h k)} (le_refl (record_width h (kind_at h k))) records_least,
        fit_most (record_width h (kind_at h k)),
      )

  pub block_among : k < block_total h → (first_block h (kind_at h k) ≤ k) × (k < first_block h (kind_at h k) + (row_of (kind_at h k) (kinds h)).blocks)
  unfolding kind_at block_total
  block_among there = located k (kinds h) 0 (kinds_apart h) (omega arith) (omega arith)
