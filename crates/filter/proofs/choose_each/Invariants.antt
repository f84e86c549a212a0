use Prim.Native.Nat.{◌≤◌, ◌^◌}
use mathlib.Core.Path.{◌≡◌}
use lib.ListN.{length, take}
use Rattle.forms.specs.Forms.{flags_in}
use Rattle.filter.proofs.Choosing.{Choosing}
use Rattle.filter.proofs.choose_each.Given as goal

abbrev pub invariant-loop-rest : goal.invariant-loop-rest
invariant-loop-rest l =
    (length l.list ≡ length l.initial.list) × ((l.n ≤ length l.initial.list) × Choosing l.image l.masks (flags_in l.forms) l.reach (2 ^ l.letters) l.bits l.rest (take l.n l.list))

abbrev pub decreases-loop-rest : goal.decreases-loop-rest
decreases-loop-rest l = l.rest
