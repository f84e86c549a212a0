use mathlib.Core.Path.{◌≡◌}
use Prim.Native.Nat.{ℕ, ◌≤◌}
use Rattle.model.specs.Blocks.{header}
use Rattle.rules.specs.Paths.{in_some}
use Rattle.listing.specs.Opening.{Known}
use Rattle.listing.proofs.opening.next_of_set.Given as goal

abbrev pub invariant-loop-rest : goal.invariant-loop-rest
invariant-loop-rest l =
    Known l.rest (header l.image).lexicons × ((e : ℕ) → l.from ≤ e → in_some l.image (header l.image).lexicons l.bits e ≡ in_some l.image (header l.image).lexicons l.rest e)

abbrev pub decreases-loop-rest : goal.decreases-loop-rest
decreases-loop-rest l = l.rest
