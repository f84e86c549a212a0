-- The empty text is right, a text over 64 bytes is not, and any other is right exactly when a context is read off it to its end.
use borrow.Author.Tests.{eqb-true, eqb-false}
use mathlib.Core.List.{[]}
use mathlib.Core.Path.{sym, ap, ◌∙◌}
use lib.ListN.{length}
use Rattle.contexts.specs.Context.{whole}
use Rattle.contexts.specs.Fuel.{read_text}
use Rattle.contexts.specs.Reader.{is_right}
use Rattle.matching.proofs.Steps as steps
use Rattle.matching.proofs.Reading.{empty_context, long_context, not_read, was_read}
use Rattle.matching.proofs.context.is_context.Goals as goal

pub returns-then-is_empty : goal.returns-then-is_empty
returns-then-is_empty c =
    let t = c.args.text.now in
    sym (ap is_right (empty_context t (eqb-true (length t) 0 (sym c.is_empty.ensures ∙ c.if-is_empty.true))))

pub returns-then-text-gt64 : goal.returns-then-text-gt64
returns-then-text-gt64 c = sym (ap is_right (long_context c.args.text.now c.if-text-gt64.true))

pub returns-in-Some : goal.returns-in-Some
returns-in-Some c =
    let t = c.args.text.now in
    let step = c.in-Some.step in
    was_read t (eqb-false (length t) 0 (sym c.is_empty.ensures ∙ c.if-is_empty.false)) c.if-text-gt64.false [] step
    (steps.known t [] (read_text whole 8 t) c.match_whole.result step c.match_whole.ensures c.in-Some.is)

pub returns-in-None : goal.returns-in-None
returns-in-None c =
    let t = c.args.text.now in
    not_read t (eqb-false (length t) 0 (sym c.is_empty.ensures ∙ c.if-is_empty.false)) c.if-text-gt64.false
    (steps.missed t [] (read_text whole 8 t) c.match_whole.result c.match_whole.ensures c.in-None.is)
