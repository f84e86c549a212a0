-- `for_few` meets its contract: the other tests of the image, and then the index.
use mathlib.Core.Path.{◌≡◌, sym, ap, subst}
use Rattle.model.specs.Blocks.{header}
use Rattle.model.specs.Refusals.{accepted, image_verdict}
use Rattle.image.specs.Accepted.{Accepted}
use Rattle.grammar.specs.Answers.{verdict_of}
use Rattle.grammar.proofs.Verdicts.{accepted_image, laid_some}
use Rattle.refusal.proofs.Given.{same_refusal}
use Rattle.prepare.specs.Had.{Had}
use Rattle.prepare.proofs.Had.{small}
use Rattle.prepare.proofs.for_few.Goals as goal

pub read_header-h-requires : goal.read_header-h-requires
read_header-h-requires c = let image = c.args.image.now in laid_some image (header image) (accepted_image image (sym c.in_ok-check_columns.ensures.verdict)).laid

pub fill_index-requires : goal.fill_index-requires
fill_index-requires c =
    let image = c.args.image.now in
    record {
      accepted = subst (Accepted image) (sym c.read_header-h.ensures) (accepted_image image (sym c.in_ok-check_columns.ensures.verdict));
      out_value = c.check_columns.ensures.rows (ap verdict_of c.in_ok-check_columns.was);
    }

pub returns-in_err-check_columns : goal.returns-in_err-check_columns
returns-in_err-check_columns c =
    subst (Had c.args.image.now c.check_columns.new.index) (sym (same_refusal c.from_residual.result _ c.from_residual.ensures.1)) (sym c.in_err-check_columns.ensures.verdict)

pub returns : goal.returns
returns c = record { verdict_is = sym c.in_ok-check_columns.ensures.verdict; header_is = c.read_header-h.ensures; indexed = small c.fill_index.ensures }
