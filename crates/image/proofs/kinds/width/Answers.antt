-- `width` meets its contract: the table's places are the definition's.
use mathlib.Core.List.{[], ◌∷◌}
use mathlib.Core.Path.{ap, ◌∙◌}
use Prim.Native.Nat.{ℕ}
use lib.ListN.{get_or}
use Rattle.image.specs.Header.{header_of}
use Rattle.image.specs.Kinds.{kind_number}
use Rattle.image.proofs.Records.{known, width_at}
use Rattle.image.proofs.kinds.width.Goals as goal

pub returns : goal.returns
returns c =
    ap (λ (n : ℕ). get_or (0 ∷ 14 ∷ 2 ∷ 2 ∷ 506 ∷ 2 ∷ 16 ∷ 16 ∷ 24 ∷ []) n 0) c.place_of.ensures.0 ∙ width_at (header_of c.args.h) (kind_number c.args.kind) (known c.args.kind)
