-- `positions::stack::shut` meets its contract.
use Prim.Native.Nat.{ℕ, ◌<◌}
use mathlib.Core.Path.{sym, subst}
use Rattle.positions.proofs.Depths.{letter_dead}
use Rattle.positions.proofs.stack.shut.Goals as goal

pub is_shut-requires : goal.is_shut-requires
is_shut-requires c =
    record { filled = c.requires.filled; a_bound = subst (λ (x : ℕ). x < 128) (sym c.byte_at.ensures.0) (c.requires.by_index c.args.d c.if-d-len.true) }

pub returns-then-d-len : goal.returns-then-d-len
returns-then-d-len c =
    let a = c.args in
    let more = c.if-d-len.true in
    let letter = c.byte_at in
    λ e. (
      more,
      λ start stacked. letter_dead a.masks.now a.flags.now start a.slots.now a.from a.len c.requires.d_le_len.1.1 a.stack.now a.d more stacked letter.result letter.ensures.0 (c.is_shut.ensures e),
    )
