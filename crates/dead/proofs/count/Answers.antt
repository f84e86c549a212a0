-- `count` meets its contract: a table without a slot remembers nothing, whatever is counted in it.
use native.Mathlib.Omega.{arith}
use mathlib.Core.Bool.{true≢false}
use lib.ListN.{length-set}
use Rattle.dead.proofs.Slots.{no_slot}
use Rattle.dead.proofs.count.Goals as goal

pub returns-then-table-ge40 : goal.returns-then-table-ge40
returns-then-table-ge40 c = record { few = (λ e. absurd (true≢false e)); kept = (λ image q known. known) }

pub returns : goal.returns
returns c = record { few = (λ e. absurd (true≢false e)); kept = (λ image q known. no_slot image q _ (simp length-set (omega arith))) }
