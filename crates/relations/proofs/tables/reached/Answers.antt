-- A row more is joined to what the rows before it reach, or left out where its place is not among the places.
use native.Mathlib.Numerals.{add-one}
use Prim.Native.Nat.{ℕ, ◌+◌}
use mathlib.Core.Bool.{◌&&◌, ◌||◌}
use mathlib.Core.Path.{◌≡◌, sym, ap, ◌∙◌, fun_ext}
use Rattle.contexts.specs.Meaning.{Places}
use Rattle.contexts.specs.Relation.{through}
use Rattle.relations.specs.Sets.{holds}
use Rattle.relations.specs.Rows.{row}
use Rattle.relations.proofs.Bits.{holds_none, taken, left}
use Rattle.relations.proofs.tables.reached.Goals as goal
use Rattle.relations.proofs.tables.reached.Goals.{then-has, else-has}

more : (p : Places) (rows : ℕ → Places) (m out x : ℕ) → holds out ≡ through m p rows → ((k : ℕ) → holds x k ≡ (holds out k || (p m && rows m k))) → holds x ≡ through (m + 1) p rows
more p rows m out x e h =
    fun_ext (λ k. h k ∙ ap (λ (q : Places). q k || (p m && rows m k)) e) ∙ ap (λ (n : ℕ). through n p rows) (sym (add-one m))

pub loop-m-init : goal.loop-m-init
loop-m-init c = fun_ext holds_none

pub loop-m-preserved : goal.loop-m-preserved
loop-m-preserved c =
    let a = c.args in
    let m = c.loop-m.m in
    let out = c.loop-m.out in
    more (holds a.places) (row a.rows.now) m out c.if-has.out c.loop-m.invariant (λ k. elim c.if-has.branch [
      | then-has w ↦ ap (λ (n : ℕ). holds n k) w.out-is ∙ w.union-out.ensures k ∙ taken (holds out k) (holds a.places m) (row a.rows.now m k) (sym c.has.ensures ∙ w.if-has.true)
      | else-has w ↦ ap (λ (n : ℕ). holds n k) w.out-is ∙ left (holds out k) (holds a.places m) (row a.rows.now m k) (sym c.has.ensures ∙ w.if-has.false)
    ])
