-- `path_verdict` meets its contract: test 11, then test 12.
use borrow.Author.Tests.{not-true, not-false}
use mathlib.Core.Path.{refl, sym, ◌∙◌}
use Rattle.model.specs.Refusals.{path_tests}
use Rattle.requests.proofs.own.path_verdict.Goals as goal

pub returns-then-not-path_length_right : goal.returns-then-not-path_length_right
unfolding path_tests
returns-then-not-path_length_right c = let t = c.path_length_right in rw (sym t.ensures ∙ not-true t.result c.if-not-path_length_right.true-raw) refl

pub returns-then-not-path_linked : goal.returns-then-not-path_linked
unfolding path_tests
returns-then-not-path_linked c =
    let t = c.path_length_right in
    let u = c.path_linked in
    rw (sym t.ensures ∙ not-false t.result c.if-not-path_length_right.false-raw, sym u.ensures ∙ not-true u.result c.if-not-path_linked.true-raw) refl

pub returns : goal.returns
unfolding path_tests
returns c =
    let t = c.path_length_right in
    let u = c.path_linked in
    rw (sym t.ensures ∙ not-false t.result c.if-not-path_length_right.false-raw, sym u.ensures ∙ not-false u.result c.if-not-path_linked.false-raw) refl
