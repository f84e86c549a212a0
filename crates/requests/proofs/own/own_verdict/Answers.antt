-- `own_verdict` meets its contract, request by request.
use mathlib.Core.Path.{sym, ap, ◌∙◌}
use Rattle.model.specs.Refusals.{first_failing, own_tests}
use Rattle.requests.specs.declared.Request.{Request}
use Rattle.requests.specs.Request.{request_of}
use Rattle.requests.proofs.own.own_verdict.Goals as goal

pub returns-in-Analysis : goal.returns-in-Analysis
unfolding own_tests
returns-in-Analysis c =
    let a = c.args in
    c.word_verdict.ensures ∙ sym (ap (λ (request : Request). first_failing (own_tests a.image.now (request_of request a.asked.now))) c.in-Analysis.is)

pub returns-in-Generation : goal.returns-in-Generation
unfolding own_tests
returns-in-Generation c =
    let a = c.args in
    c.path_verdict.ensures ∙ sym (ap (λ (request : Request). first_failing (own_tests a.image.now (request_of request a.asked.now))) c.in-Generation.is)
