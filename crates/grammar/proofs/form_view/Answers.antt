-- `form_view` meets its contract: the part of the image that its companion tells of.
use mathlib.Core.Path.{sym, ap, ◌∙◌}
use Rattle.grammar.specs.Answers.{form_reply_of}
use Rattle.grammar.proofs.Verdicts.{view_none}
use Rattle.grammar.proofs.form_view.Goals as goal

pub form_part-requires : goal.form_part-requires
form_part-requires c = sym c.form_reply.ensures ∙ ap form_reply_of c.in-Ok.is

pub returns-in-Err : goal.returns-in-Err
returns-in-Err c =
    view_none c.args.image.now c.args.e _ (sym c.form_reply.ensures ∙ ap form_reply_of c.in-Err.is)
