-- `recall` meets its contract: the slot that is compared has the node's numbers.
use native.Mathlib.Omega.{arith}
use mathlib.Core.Path.{◌≡◌, ap}
use mathlib.Core.List.{List}
use Prim.Native.Nat.{ℕ, ◌+◌, ◌*◌, ◌-◌}
use lib.ListN.{length, take, length-take}
use Rattle.model.specs.Blocks.{Header}
use Rattle.dead.specs.Dead.{width_of, KeyOf}
use Rattle.dead.proofs.Slots.{recalled}
use Rattle.dead.proofs.recall.Goals as goal

pub returns : goal.returns
returns c =
    let a = c.args in
    let image = a.image.now in
    let w = width_of image in
    let k = c.slot_of.result in
    let key : List ℕ = take (8 + a.h.rules) c.key_of-numbers.result in
    let wide : 8 + a.h.rules ≡ w = ap (λ (g : Header). 8 + g.rules) c.requires.accepted.laid.header_is in
    let long : length key ≡ w = simp length-take (omega (arith, wide, c.requires.accepted.laid.limits.rules_most)) in
    let is : KeyOf image a.place a.entries a.pairs key = rw wide c.key_of-numbers.ensures in
    let room : (w * k + w) - w * k ≡ w = omega arith in
    λ q known e. recalled image q a.table.now k c.requires.in_bounds.0 (rw long at c.slot_of.ensures) a.place a.entries a.pairs key is (rw (long, room) at (c.same.ensures e)) known
