-- `judge_rules` meets its contract.
use mathlib.Core.Path.{◌≡◌, sym, ap, ◌∙◌, subst}
use Rattle.model.specs.Blocks.{Header, header}
use Rattle.model.specs.Refusals.{accepted, image_verdict}
use Rattle.image.specs.Accepted.{Accepted}
use Rattle.grammar.specs.Answers.{verdict_of}
use Rattle.grammar.proofs.Verdicts.{accepted_image, laid_some}
use Rattle.refusal.proofs.Given.{same_refusal}
use Rattle.judge.specs.Answers.{judgement_of}
use Rattle.written_rules.proofs.Judgements.{image_refused, image_accepted}
use Rattle.written_rules.proofs.judge_rules.Goals as goal
use Rattle.written_rules.proofs.judge_rules.Goals.{In_ok-check}

-- in the arm of an accepted image
passed : (c : In_ok-check) → image_verdict c.args.image.now ≡ accepted
passed c = sym c.check.ensures ∙ ap verdict_of c.in_ok-check.was

pub read_header-h-requires : goal.read_header-h-requires
read_header-h-requires c = let image = c.args.image.now in laid_some image (header image) (accepted_image image (passed c)).laid

pub judge_accepted-requires : goal.judge_accepted-requires
judge_accepted-requires c =
    let image = c.args.image.now in
    let accepted = accepted_image image (passed (goal.at.judge_accepted-requires c).In_ok-check) in
    subst (λ (h : Header). Accepted image h) (sym c.read_header-h.ensures) accepted

pub returns-in_err-check : goal.returns-in_err-check
returns-in_err-check c =
    let a = c.args in
    ap judgement_of (same_refusal c.from_residual.result _ c.from_residual.ensures.1)
    ∙ image_refused a.image.now a.pairing.now a.text.now _ (sym c.in_err-check.ensures)

pub returns : goal.returns
returns c = let a = c.args in c.judge_accepted.ensures ∙ image_accepted a.image.now a.pairing.now a.text.now (passed (goal.at.returns c).In_ok-check)
