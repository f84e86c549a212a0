-- `write_list` meets its contract: at the loop's head the count and the first i numbers are written.
use native.Mathlib.Omega.{arith}
use mathlib.Core.Path.{◌≡◌, ap, ◌∙◌}
use Prim.Native.Nat.{ℕ, ◌+◌, ◌*◌, ◌<◌}
use Rattle.rows.specs.Trail.{row_up_to}
use Rattle.rows.proofs.Bytes.{up_to_more}
use Rattle.rows.proofs.write_list.Goals as goal

pub loop-i-init : goal.loop-i-init
loop-i-init g c =
    let k = c.args.k in
    let e : k + 1 ≡ k + 1 + 0 = omega arith in
    let inside : k < 58 = omega (arith, c.requires.inside) in
    (c.put_number.auto.bytes ∙ c.requires.row_len, λ r l. up_to_more r k (2 * k) c.args.n c.args.row.now _ inside (omega arith) l.count l.before c.put_number.ensures ∙ ap (row_up_to r) e)

pub loop-i-preserved : goal.loop-i-preserved
loop-i-preserved g c =
    let i = c.loop-i.i in
    let place = c.args.k + 1 + i in
    let inside : place < 58 = omega (arith, c.requires.inside, c.loop-i-test.true) in
    let number = c.number.result in
    let asked = c.loop-i-test.true in
    let e : place + 1 ≡ c.args.k + 1 + (i + 1) = omega arith in (
      c.put_number-in-loop-i.auto.bytes ∙ c.loop-i.invariant.0,
      λ r l. up_to_more r place (2 * place) number c.loop-i.row _ inside (omega arith) (l.numbers i number asked c.number.ensures) (c.loop-i.invariant.1 r l) c.put_number-in-loop-i.ensures
          ∙ ap (row_up_to r) e,
    )

pub returns : goal.returns
returns g c r l = c.loop-i.invariant.1 r l ∙ ap (λ (i : ℕ). row_up_to r (c.args.k + 1 + i)) (omega (arith, c.loop-i-test.false, c.loop-i.auto.i-end))
