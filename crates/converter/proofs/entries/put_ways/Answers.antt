-- `put_ways` meets its contract: the eight bytes of the number, the lowest first, are those of the set.
use Prim.Native.Nat.{◌-◌}
use native.Mathlib.Omega.{arith}
use mathlib.Core.Path.{◌≡◌, ap, ap₂, ◌∙◌}
use mathlib.Core.List.{List, [], ◌++◌, append-nil}
use Prim.Native.Nat.{ℕ}
use lib.ListN.{length, take, drop, length-drop, drop_of_length-le}
use Rattle.model.specs.Lists.{bit}
use Rattle.conversion.specs.Conversion.{way_bytes}
use Rattle.converter.proofs.EntryLaws.{ways_written}
use Rattle.converter.proofs.entries.put_ways.Goals as goal

pub returns : goal.returns
returns c =
    let bits = c.args.bits in
    let out = c.args.out.now in
    let written = c.copy_from_slice.ensures.after ∙ c.to_le_bytes.ensures ∙ ways_written bits in
    let last : drop (length out - 16) (drop 16 out) ≡ [] = drop_of_length-le (drop 16 out) {i = length out - 16} (omega (arith, length-drop 16 out)) in
    ap₂ (λ (ways rest : List ℕ). take 16 out ++ (ways ++ rest)) written last ∙ ap (λ (ways : List ℕ). take 16 out ++ ways) (append-nil (way_bytes (bit bits)))
