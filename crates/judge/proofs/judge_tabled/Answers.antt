-- `judge_tabled` meets its contract: the other tests of the image, then those of path and pairing, then the reading.
use mathlib.Core.Path.{◌≡◌, sym, ap, subst, ◌∙◌}
use Rattle.model.specs.Blocks.{header}
use Rattle.model.specs.Refusals.{accepted, image_verdict}
use Rattle.image.specs.Accepted.{Accepted}
use Rattle.grammar.specs.Answers.{verdict_of}
use Rattle.grammar.proofs.Verdicts.{accepted_image, laid_some}
use Rattle.refusal.proofs.Given.{same_refusal}
use Rattle.judge.specs.Answers.{judgement_of}
use Rattle.judge.proofs.Judgements.{image_refused, image_accepted}
use Rattle.judge.proofs.judge_tabled.Goals as goal
use Rattle.judge.proofs.judge_tabled.Goals.{In_ok-check_columns}

-- in the arm of an accepted image
passed : (c : In_ok-check_columns) → image_verdict c.args.image.now ≡ accepted
passed c = sym c.check_columns.ensures.verdict ∙ ap verdict_of c.in_ok-check_columns.was

pub read_header-h-requires : goal.read_header-h-requires
read_header-h-requires c =
    let image = c.args.image.now in
    laid_some image (header image) (accepted_image image (passed c)).laid

pub judge_accepted-requires : goal.judge_accepted-requires
judge_accepted-requires c =
    let image = c.args.image.now in
    let accepted = accepted_image image (passed (goal.at.judge_accepted-requires c).In_ok-check_columns) in
    record {
      accepted = subst (Accepted image) (sym c.read_header-h.ensures) accepted;
      index_value = c.check_columns.ensures.rows (ap verdict_of c.in_ok-check_columns.was);
    }

pub returns-in_err-check_columns : goal.returns-in_err-check_columns
returns-in_err-check_columns c =
    ap judgement_of (same_refusal c.from_residual.result _ c.from_residual.ensures.1) ∙ image_refused c.args.image.now c.args.path.now c.args.pairing.now _ (sym c.in_err-check_columns.ensures.verdict)

pub returns : goal.returns
returns c =
    c.judge_accepted.ensures ∙ image_accepted c.args.image.now c.args.path.now c.args.pairing.now (passed (goal.at.returns c).In_ok-check_columns)
