-- The rows after a place are closed already; its own is what is reached through them, and the place itself.
use native.Mathlib.Omega.{arith}
use Prim.Native.Nat.{ℕ, suc, ◌-◌}
use mathlib.Core.Bool.{◌||◌}
use mathlib.Core.Path.{◌≡◌, refl, ap, ◌∙◌, fun_ext}
use lib.ListN.{get_or-replicate}
use lib.Dec.{eqb}
use Rattle.contexts.specs.Meaning.{Places}
use Rattle.contexts.specs.Relation.{through}
use Rattle.relations.specs.Sets.{holds}
use Rattle.relations.specs.Rows.{row}
use Rattle.relations.proofs.Filling.{closing_begun, closing_more}
use Rattle.relations.proofs.tables.star.Goals as goal

both : (p q : Places) (x j : ℕ) → p ≡ q → ((k : ℕ) → holds x k ≡ (p k || eqb k j)) → holds x ≡ (λ k. q k || eqb k j)
both p q x j e h = fun_ext (λ k. h k ∙ ap (λ (r : Places). r k || eqb k j) e)

pub loop-j-init : goal.loop-j-init
loop-j-init c = let a = c.args in closing_begun (row a.one.now) _ a.n refl (λ i h. get_or-replicate 64 i 0 0 (omega (arith, c.requires)))

pub loop-j-preserved : goal.loop-j-preserved
loop-j-preserved c =
    let a = c.args in
    let j = c.loop-j.j - 1 in
    closing_more (row a.one.now) c.loop-j.rows a.n c.loop-j.j j c.with.result (omega (arith, c.loop-j-test.true)) c.requires c.loop-j.invariant
    (both (holds c.reached-far.result) (through (suc a.n) (row a.one.now j) (row c.loop-j.rows)) c.with.result j c.reached-far.ensures c.with.ensures)
