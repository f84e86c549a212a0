-- `put_same` meets its contract: the block is copied, and in the first one the form is written over.
use borrow.Author.Rules.{rules}
use Prim.Native.Nat.{ℕ, ◌+◌, ◌*◌, ◌-◌, ◌≤◌}
use native.Mathlib.Omega.{arith}
use mathlib.Core.Path.{◌≡◌, ap, ◌∙◌}
use lib.ListN.{length, take, drop}
use Rattle.model.specs.Blocks.{block}
use Rattle.converter.proofs.BlockLaws.{before_entries, before_few, put_first, put_later}
use Rattle.converter.proofs.blocks.put_same.Goals as goal
use Rattle.converter.proofs.blocks.put_same.Goals.{After-copy_from_slice, Start}

room : (s : Start) → 512 * s.args.k + 512 ≤ length s.args.image.now
room s = before_entries s.requires.converting s.args.k s.requires.block_len.1

-- what was copied is the block
copied : (c : After-copy_from_slice) → c.copy_from_slice.new.self ≡ block c.args.image.now c.args.k
unfolding block
copied c =
    let from = 512 * c.args.k in
    let long : from + 512 - from ≡ 512 = omega arith in
    c.copy_from_slice.ensures.after ∙ ap (λ (n : ℕ). take n (drop from c.args.image.now)) long

pub overflow_mul-from : goal.overflow_mul-from
overflow_mul-from c = let few = before_few c.requires.converting c.args.k c.requires.block_len.1 in search rules

pub overflow_add-from : goal.overflow_add-from
overflow_add-from c = let few = before_few c.requires.converting c.args.k c.requires.block_len.1 in search rules

pub slice_bounds-copy_from_slice-end : goal.slice_bounds-copy_from_slice-end
slice_bounds-copy_from_slice-end c = room (goal.at.slice_bounds-copy_from_slice-end c).Start

pub put_number-requires : goal.put_number-requires
put_number-requires c = omega (arith, c.copy_from_slice.auto.self, c.requires.block_len.0)

pub returns-then-k-eq0 : goal.returns-then-k-eq0
returns-then-k-eq0 c =
    let v = c.requires.converting in
    let block = c.copy_from_slice.new.self in
    let is = copied (goal.at.returns-then-k-eq0 c).After-copy_from_slice in
    put_first v c.args.k c.requires.block_len.1 (λ i. omega (arith, c.type_inv.image i)) block c.put_number.new.bytes c.if-k-eq0.true is c.put_number.ensures

pub returns-else-k-eq0 : goal.returns-else-k-eq0
returns-else-k-eq0 c =
    let v = c.requires.converting in
    let is = copied (goal.at.returns-else-k-eq0 c).After-copy_from_slice in
    put_later v c.args.k c.requires.block_len.1 (λ i. omega (arith, c.type_inv.image i)) c.copy_from_slice.new.self c.if-k-eq0.false is
