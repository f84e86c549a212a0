-- `bits_at` meets its contract: what is read are the eight bytes from `at` on, and the number that they make names what they name.
use native.Mathlib.Omega.{arith}
use native.Mathlib.Nat.{add-zero}
use mathlib.Core.Path.{◌≡◌, ap, ◌∙◌}
use Prim.Native.Nat.{ℕ, ◌+◌, ◌<◌}
use lib.ListN.{drop}
use lib.Seq.{get_or-drop}
use Rattle.model.specs.Lists.{byte, bit}
use Rattle.lexicon.proofs.WayLaws.{eight_names}
use Rattle.lexicon.proofs.ways.bits_at.Goals as goal

pub returns : goal.returns
returns c = λ x few.
    let image = c.args.image.now in
    let at = c.args.at in
    let bytes = drop at image in
    let read : (i : ℕ) → byte bytes i ≡ byte image (at + i) = λ i. get_or-drop at image i 0 in
    let small : (i : ℕ) → byte bytes i < 256 = λ i. omega (arith, read i, c.type_inv.image (at + i)) in
    eight_names bytes small x few
    ∙ ap (λ (n : ℕ). bit n x) (omega (arith, c.from_le_bytes.ensures, read 0 ∙ ap (byte image) (add-zero at), read 1, read 2, read 3, read 4, read 5, read 6, read 7))
