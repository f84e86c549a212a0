-- A place more is put into the set where its row holds a place.
use native.Mathlib.Numerals.{add-one}
use Prim.Native.Nat.{ℕ, suc}
use mathlib.Core.Path.{◌≡◌, sym, ap, ◌∙◌}
use lib.Dec.{eqb}
use Rattle.contexts.specs.Operators.{some}
use Rattle.relations.specs.Sets.{holds}
use Rattle.relations.specs.Rows.{row}
use Rattle.relations.proofs.Bits.{taken, left}
use Rattle.relations.proofs.Counting.{count_begun, count_more}
use Rattle.relations.proofs.tables.beginning.Goals as goal
use Rattle.relations.proofs.tables.beginning.Goals.{then-holds_any, else-holds_any}

pub loop-i-init : goal.loop-i-init
loop-i-init c = count_begun (λ k. some (row c.args.rows.now (suc k)) (suc c.args.n))

pub loop-i-preserved : goal.loop-i-preserved
loop-i-preserved c =
    let a = c.args in
    let i = c.loop-i.i in
    let out = c.loop-i.out in
    let begins = some (row a.rows.now (suc i)) (suc a.n) in
    let told : c.holds_any.result ≡ begins = c.holds_any.ensures ∙ ap (λ (m : ℕ). some (row a.rows.now m) (suc a.n)) (add-one i) in
    count_more (λ k. some (row a.rows.now (suc k)) (suc a.n)) i out c.if-holds_any.out c.loop-i.invariant (λ k. elim c.if-holds_any.branch [
      | then-holds_any w ↦ ap (λ (n : ℕ). holds n k) w.out-is ∙ w.with-out.ensures k ∙ taken (holds out k) begins (eqb k i) (sym told ∙ w.if-holds_any.true)
      | else-holds_any w ↦ ap (λ (n : ℕ). holds n k) w.out-is ∙ left (holds out k) begins (eqb k i) (sym told ∙ w.if-holds_any.false)
    ])
