-- `put_block` meets its contract: before the entries a block is put as it was; from the entries on it is made anew; then it is sealed.
use native.Mathlib.Omega.{arith}
use mathlib.Core.Path.{ap, ◌∙◌}
use mathlib.Core.List.{List}
use Prim.Native.Nat.{ℕ}
use Rattle.model.specs.Blocks.{sealed_block}
use Rattle.image.proofs.Records.{counted}
use Rattle.converter.proofs.BlockLaws.{o_limits}
use Rattle.converter.proofs.blocks.put_block.Goals as goal
use Rattle.converter.proofs.blocks.put_block.Goals.{then-k-first_block, else-k-first_block}

pub first_block-requires : goal.first_block-requires
first_block-requires c = counted _ (o_limits c.requires.converting)

pub put_same-requires : goal.put_same-requires
put_same-requires c =
    record { converting = c.requires.converting; block_len = (c.requires.block_len.0, omega (arith, c.first_block.ensures, c.if-k-first_block.true)) }

pub put_entries-requires : goal.put_entries-requires
put_entries-requires c =
    record { converting = c.requires.converting; block_len = c.requires.block_len.0; o_bound = (omega (arith, c.first_block.ensures, c.if-k-first_block.false), c.requires.block_len.1) }

pub returns : goal.returns
returns c =
    let k = c.args.k in
    elim c.if-k-first_block.branch [
      | then-k-first_block w ↦ c.seal_block.ensures ∙ ap (sealed_block k) w.block-is ∙ w.put_same.ensures
      | else-k-first_block w ↦ c.seal_block.ensures ∙ ap (sealed_block k) (w.block-is ∙ w.put_entries.ensures)
    ]
