-- `form_reply` meets its contract: the image check, then 12 for a missing entry.
use native.Mathlib.Omega.{arith}
use mathlib.Core.Path.{◌≡◌, sym, ap, subst, ◌∙◌}
use Rattle.model.specs.Blocks.{Header, header}
use Rattle.model.specs.Refusals.{accepted, image_verdict}
use Rattle.model.specs.Beside as beside
use Rattle.image.specs.Laid.{Laid}
use Rattle.grammar.specs.Answers.{verdict_of, form_reply_of}
use Rattle.refusal.proofs.Given.{same_refusal}
use Rattle.grammar.proofs.Verdicts.{accepted_image, laid_some, form_refused, form_missing, form_there}
use Rattle.grammar.proofs.form_reply.Goals as goal
use Rattle.grammar.proofs.form_reply.Goals.{After-read_header-h, In_ok-check}

-- in the arm of an accepted image
judged : (c : In_ok-check) → image_verdict c.args.image.now ≡ accepted
judged c = sym c.check.ensures ∙ ap verdict_of c.in_ok-check.was

entries_are : (c : After-read_header-h) → c.read_header-h.result.entries ≡ (header c.args.image.now).entries
entries_are c = ap (λ (h : Header). h.entries) c.read_header-h.ensures

pub read_header-h-requires : goal.read_header-h-requires
read_header-h-requires c = laid_some c.args.image.now (header c.args.image.now) (accepted_image c.args.image.now (judged c)).laid

pub returns-then-h-e : goal.returns-then-h-e
returns-then-h-e c =
    form_missing c.args.image.now c.args.e (judged (goal.at.returns-then-h-e c).In_ok-check) (omega (arith, entries_are (goal.at.returns-then-h-e c).After-read_header-h))

pub form_length-requires : goal.form_length-requires
form_length-requires c =
    let image = c.args.image.now in
    let accepted = accepted_image image (judged (goal.at.form_length-requires c).In_ok-check) in
    record { laid = subst (Laid image) (sym c.read_header-h.ensures) accepted.laid; e_lt_entries = c.if-h-e.false }

pub returns-in_err-check : goal.returns-in_err-check
returns-in_err-check c =
    ap form_reply_of (same_refusal c.from_residual.result _ c.from_residual.ensures.1) ∙ form_refused c.args.image.now c.args.e _ (sym c.in_err-check.ensures)

pub returns : goal.returns
returns c =
    let a = c.args in
    ap beside.FormReply.letters c.form_length.ensures.0
    ∙ form_there a.image.now a.e (judged (goal.at.returns c).In_ok-check) (omega (arith, entries_are (goal.at.returns c).After-read_header-h, c.if-h-e.false))
