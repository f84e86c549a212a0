-- `forms::pairs::fill_rows` meets its contract.
use Prim.Native.Nat.{ℕ, ◌+◌, ◌≤◌}
use native.Mathlib.Omega.{arith}
use mathlib.Core.Path.{◌≡◌, sym, ap, ◌∙◌, subst}
use mathlib.Core.List.{List}
use lib.ListN.{replicate}
use Rattle.forms.specs.Filling.{RowsOf}
use Rattle.image.specs.Header.{header_of}
use Rattle.forms.proofs.PairLaws.{lexical_most, surface_most, rows_none, rows_passed, rows_more}
use Rattle.forms.proofs.pairs.fill_rows.Goals as goal
use Rattle.forms.proofs.pairs.fill_rows.Goals.{else-s-ne0, then-s-ne0}

pub loop-p-init : goal.loop-p-init
loop-p-init c =
    rows_none c.args.image.now c.fill.new.self (c.fill.ensures.after (λ y e. e) ∙ ap (λ (n : ℕ). replicate n 0) c.requires.rows_len)

pub put_letter-requires : goal.put_letter-requires
put_letter-requires c =
    let l = c.loop-p in
    let e = c.surface_side-s.ensures in
    let there = c.loop-p-test.true in
    let most = surface_most c.args.image.now (header_of c.args.h) c.requires.accepted l.p there in
    let row : c.from.result ≤ 120 = omega (arith, c.from.ensures, e, most) in
    (l.invariant.long, (row, omega (arith, l.invariant.few c.from.result row, there, c.requires.accepted.laid.limits.pairs_most)))

pub loop-p-preserved : goal.loop-p-preserved
loop-p-preserved c =
    let image = c.args.image.now in
    let h = header_of c.args.h in
    let l = c.loop-p in
    let e = c.surface_side-s.ensures in
    let there = c.loop-p-test.true in
    let most = surface_most image h c.requires.accepted l.p there in
    elim c.if-s-ne0.branch [
      | then-s-ne0 w ↦ let row : w.from.result ≤ 120 = omega (arith, w.from.ensures, e, most) in
          let letter : w.lexical_side-a.result.0 ≤ 120 = omega (arith, w.lexical_side-a.ensures, lexical_most image h c.requires.accepted l.p there) in
          subst (λ (x : List ℕ). RowsOf image x (l.p + 1)) (sym w.rows-is)
          (rows_more image l.rows l.p w.put_letter.new.rows w.from.result w.lexical_side-a.result.0 l.invariant w.put_letter.ensures row letter
          (omega (arith, there, c.requires.accepted.laid.limits.pairs_most)) (λ q k. surface_most image h c.requires.accepted q (omega arith)) (w.from.ensures ∙ e) w.lexical_side-a.ensures)
      | else-s-ne0 w ↦ subst (λ (x : List ℕ). RowsOf image x (l.p + 1)) (sym w.rows-is) (rows_passed image l.rows l.p l.invariant (sym e ∙ w.if-s-ne0.false))
    ]

pub returns : goal.returns
returns c =
    let l = c.loop-p in
    let a = c.args in
    let all : l.p ≡ a.h.pairs = omega arith in
    subst (RowsOf a.image.now l.rows) all l.invariant
