-- `spell` meets its contract: the image check first.
use mathlib.Core.Path.{sym, ap, ◌∙◌}
use Rattle.grammar.specs.Answers.{verdict_of}
use Rattle.refusal.proofs.Given.{same_refusal}
use Rattle.spelling.specs.Answers.{spelling_of}
use Rattle.spelling.proofs.Replies.{image_refused}
use Rattle.spelling.proofs.spell.Goals as goal

pub spell_accepted-requires : goal.spell_accepted-requires
spell_accepted-requires c = sym c.check.ensures ∙ ap verdict_of c.in_ok-check.was

pub returns-in_err-check : goal.returns-in_err-check
returns-in_err-check c =
    let a = c.args in
    let refused = image_refused a.image.now a.points.now a.out.now _ (sym c.in_err-check.ensures) in
    record { reply = ap spelling_of (same_refusal c.from_residual.result _ c.from_residual.ensures.1) ∙ refused.0; bytes = refused.1 }
