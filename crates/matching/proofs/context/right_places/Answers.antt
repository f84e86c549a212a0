-- A run begins after a place whose next row holds a place; without a run the context is empty.
use borrow.Author.Tests.{le-leb, eqb-true}
use native.Mathlib.Omega.{arith}
use mathlib.Core.Path.{sym, ◌∙◌}
use lib.ListN.{length}
use Rattle.matching.proofs.Reading.{empty_context, right_read, right_empty, right_everywhere, right_by}
use Rattle.matching.proofs.context.right_places.Goals as goal

pub returns-then-is_empty : goal.returns-then-is_empty
returns-then-is_empty c =
    let a = c.args in
    let e = empty_context a.text.now (eqb-true (length a.text.now) 0 (sym c.is_empty.ensures ∙ c.if-is_empty.true)) in
    λ i h. c.all_places.ensures i ∙ le-leb i (length a.s.now) (omega (arith, h)) ∙ sym (right_everywhere a.text.now a.s.now i e)

pub returns-in-Some : goal.returns-in-Some
returns-in-Some c =
    let a = c.args in
    let r = right_read a.text.now a.s.now c.match_whole.result c.requires.text_value c.match_whole.ensures c.in-Some.step c.in-Some.is in
    λ i h. c.beginning.ensures i h ∙ right_by a.text.now a.s.now r.0 c.in-Some.step.rows r.1 r.2 i h

pub returns-in-None : goal.returns-in-None
returns-in-None c =
    let a = c.args in
    let e = right_empty a.text.now a.s.now c.match_whole.result c.requires.text_value c.match_whole.ensures c.in-None.is in
    λ i h. c.all_places-in-None.ensures i ∙ le-leb i (length a.s.now) (omega (arith, h)) ∙ sym (right_everywhere a.text.now a.s.now i e)
