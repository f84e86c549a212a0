use Prim.Native.Nat.{ℕ}
use mathlib.Core.Path.{◌≡◌}
use mathlib.Core.List.{List, [], ◌∷◌}
use lib.ListN.{length}
use Rattle.model.specs.Blocks.{Header, header}
use Rattle.built.specs.Built.{record_in}
use Rattle.conversion.specs.Conversion.{other_header, other_records}
use Rattle.converter.proofs.Stores.{zeros, parts_to}
use Rattle.converter.proofs.blocks.put_entries.Given as goal

-- the block with i of its n records, each of this width
abbrev pub madeTo : List ℕ → Header → ℕ → ℕ → ℕ → ℕ → List ℕ
madeTo image o k wide n i = parts_to (0 ∷ 0 ∷ 6 ∷ n ∷ []) (record_in o (other_records image) k) wide (0 ∷ 0 ∷ 6 ∷ n ∷ zeros 508) i

abbrev pub invariant-loop-i : goal.invariant-loop-i
invariant-loop-i l = (length l.block ≡ 512) × (l.block ≡ madeTo l.image (other_header (header l.image)) l.k l.wide l.n l.i)
