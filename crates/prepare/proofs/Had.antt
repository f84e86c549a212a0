-- The index alone, as what is had of an accepted image.
use Prim.Native.Nat.{ℕ}
use native.Mathlib.Omega.{arith}
use mathlib.Core.Logic.{inl}
use mathlib.Core.Path.{◌≡◌, sym, ap, ◌∙◌}
use mathlib.Core.List.{List}
use lib.ListN.{length, length-drop}
use lib.Seq.{take_all}
use Rattle.image.specs.Index.{index_of}
use Rattle.index.proofs.Laws.{length_index_of}
use Rattle.prepare.specs.Indexed.{Indexed}

-- the index alone
pub small : {image index : List ℕ} → index ≡ index_of image → Indexed image index
small {image} {index} e =
    let long : length index ≡ 39424 = ap length e ∙ length_index_of image in
    record { long = omega (arith, long); index_is = take_all 39424 index (omega (arith, long)) ∙ e; forms_are = inl (length-drop 39424 index ∙ omega (arith, long)) }
