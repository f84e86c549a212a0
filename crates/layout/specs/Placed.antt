-- Which kind of record stands in block k.
use Rattle.std.specs.Prelude.{ℕ, ◌≤◌, ◌≡◌}
use Rattle.model.specs.Blocks.{Header, kind_at, first_block}
use Rattle.image.specs.Kinds.{IsKind}

-- the kind of block k, whose first block is no later one
pub record Placed (h : Header) (k kind : ℕ) : Type 0 where
  pub kind_is : kind ≡ kind_at h k
  pub is_kind : IsKind kind
  pub begun : first_block h kind ≤ k
