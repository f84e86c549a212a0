-- `per_block` meets its contract: the table's places are the definition's.
use mathlib.Core.List.{[], ◌∷◌}
use mathlib.Core.Path.{ap, ◌∙◌}
use Prim.Native.Nat.{ℕ}
use lib.ListN.{get_or}
use Rattle.image.specs.Header.{header_of}
use Rattle.image.specs.Kinds.{kind_number}
use Rattle.image.proofs.Records.{known, per_block_at}
use Rattle.image.proofs.kinds.per_block.Goals as goal

pub returns : goal.returns
returns c =
    ap (λ (n : ℕ). get_or (0 ∷ 36 ∷ 253 ∷ 253 ∷ 1 ∷ 253 ∷ 31 ∷ 31 ∷ 21 ∷ []) n 0) c.place_of.ensures.0 ∙ per_block_at (header_of c.args.h) (kind_number c.args.kind) (known c.args.kind)
