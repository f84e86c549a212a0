-- Which kind block k has, and the parts of a block's layout.
use Prim.Native.Nat.{ℕ, ◌+◌, ◌<◌, ◌≤◌}
use native.Mathlib.Omega.{arith}
use mathlib.Core.Bool.{Bool, true, false, cond}
use mathlib.Core.Path.{◌≡◌, refl, sym, ap, ◌∙◌}
use mathlib.Core.List.{List, [], ◌∷◌}
use lib.Dec.{eqb, ltb}
use borrow.Author.Tests.{lt-ltb, le-ltb, eqb-true}
use Rattle.model.specs.Blocks.{Header, Kind, kinds, row_of, blocks_before, kind_from, kind_at, first_block}
use Rattle.image.specs.Kinds.{IsKind}
use Rattle.layout.specs.Placed.{Placed}

-- a block that is among those of a kind has that kind
module _ (kind k : ℕ) where
  before_least : (rs : List Kind) (n : ℕ) → n ≤ blocks_before kind n rs
  before_least [] n = omega arith
  before_least (r ∷ rs) n = go (eqb r.kind kind) (before_least rs (n + r.blocks))
    where
      go : (b : Bool) → n + r.blocks ≤ blocks_before kind (n + r.blocks) rs → n ≤ cond b n (blocks_before kind (n + r.blocks) rs)
      go true l = omega arith
      go false l = omega arith

  kind_among : (rs : List Kind) (n : ℕ) → blocks_before kind n rs ≤ k → k < blocks_before kind n rs + (row_of kind rs).blocks → kind_from k n rs ≡ kind
  kind_among [] n least most = absurd (omega arith)
  kind_among (r ∷ rs) n least most = go (eqb r.kind kind) refl (kind_among rs (n + r.blocks)) least most
    where
      go : (b : Bool) → eqb r.kind kind ≡ b
          → (blocks_before kind (n + r.blocks) rs ≤ k → k < blocks_before kind (n + r.blocks) rs + (row_of kind rs).blocks → kind_from k (n + r.blocks) rs ≡ kind)
          → cond b n (blocks_before kind (n + r.blocks) rs) ≤ k → k < cond b n (blocks_before kind (n + r.blocks) rs) + (cond b r (row_of kind rs)).blocks
          → cond (ltb k (n + r.blocks)) r.kind (kind_from k (n + r.blocks) rs) ≡ kind
      go true e rest least most = ap (λ (b : Bool). cond b r.kind (kind_from k (n + r.blocks) rs)) (lt-ltb k (n + r.blocks) most) ∙ eqb-true r.kind kind e
      go false e rest least most =
          ap (λ (b : Bool). cond b r.kind (kind_from k (n + r.blocks) rs)) (le-ltb k (n + r.blocks) (omega (arith, before_least rs (n + r.blocks))))
          ∙ rest least most

pub placed : (h : Header) (k kind : ℕ) → IsKind kind → first_block h kind ≤ k → k < first_block h kind + (row_of kind (kinds h)).blocks → Placed h k kind
unfolding kind_at
placed h k kind is least most = record { kind_is = sym (kind_among kind k (kinds h) 0 least most); is_kind = is; begun = least }
