-- `right_layout` meets its contract: the four parts of the test, in their order, each of which the ones after it rest on.
use native.Mathlib.Omega.{arith}
use mathlib.Core.Path.{sym, ◌∙◌}
use borrow.Author.Tests.{eqb-true}
use Rattle.model.proofs.Sealing.{right_some, right_few}
use Rattle.image.specs.Header.{header_of}
use Rattle.layout.proofs.Laid.{counted_of, limited}
use Rattle.layout.proofs.right_layout.Goals as goal
use Rattle.layout.proofs.right_layout.Goals.{then-right_form, else-right_form, then-within_limits, else-within_limits}

pub read_header-h-requires : goal.read_header-h-requires
read_header-h-requires c = right_some c.args.image.now c.requires

pub block_total-requires : goal.block_total-requires
block_total-requires c =
    elim c.if-right_form.branch [
      | then-right_form w ↦ counted_of (header_of c.read_header-h.result) (sym w.within_limits.ensures ∙ sym w.value-is ∙ c.if-within_limits.true)
      | else-right_form w ↦ absurd (cc)
    ]

pub all_laid_out-requires-clause-limited : goal.all_laid_out-requires-clause-limited
all_laid_out-requires-clause-limited c =
    let h = header_of c.read_header-h.result in
    elim c.if-within_limits.branch [
      | then-within_limits w ↦
          let total = eqb-true _ _ (sym w.value-is ∙ c.if-image-block_total.true) ∙ w.block_total.ensures in
          elim c.if-right_form.branch [
            | then-right_form v ↦
                let counts = counted_of h (sym v.within_limits.ensures ∙ sym v.value-is ∙ w.if-within_limits.true) in
                limited h counts (sym c.right_form.ensures ∙ v.if-right_form.true) (omega (arith, right_few c.args.image.now c.requires, total))
            | else-right_form v ↦ absurd (cc)
          ]
      | else-within_limits w ↦ absurd (cc)
    ]
