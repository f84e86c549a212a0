-- `positions::stack::is_shut` meets its contract.
use borrow.Author.Tests.{eqb-true}
use lib.Bits.{bit_and}
use lib.ListN.{get_or}
use Rattle.positions.proofs.Depths.{step_shut}
use Rattle.positions.proofs.stack.is_shut.Goals as goal

pub returns-then-not-deletable : goal.returns-then-not-deletable
returns-then-not-deletable c =
    let a = c.args in
    λ e. step_shut a.masks.now a.flags.now a.a a.m c.if-not-deletable.true (eqb-true (bit_and a.m (get_or a.masks.now a.a 0)) 0 e)
