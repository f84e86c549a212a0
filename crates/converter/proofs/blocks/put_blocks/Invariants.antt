use Prim.Native.Nat.{ℕ}
use mathlib.Core.Path.{◌≡◌}
use mathlib.Core.List.{List, []}
use lib.ListN.{length}
use Rattle.model.specs.Blocks.{Header, sealed_block}
use Rattle.image.specs.Header.{header_of}
use Rattle.built.specs.Built.{built_block}
use Rattle.conversion.specs.Conversion.{other_records}
use Rattle.converter.proofs.Stores.{parts_to}
use Rattle.converter.proofs.blocks.put_blocks.Given as goal

abbrev pub block_of : List ℕ → Header → ℕ → List ℕ
block_of image o k = sealed_block k (built_block o (other_records image) k)

abbrev pub invariant-loop-k : goal.invariant-loop-k
invariant-loop-k l = (length l.target ≡ length l.initial.target) × (l.target ≡ parts_to [] (block_of l.image (header_of l.o)) 512 l.initial.target l.k)
