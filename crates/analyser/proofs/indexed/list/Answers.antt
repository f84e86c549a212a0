-- `list` meets its contract: the call's own tests, and then the search.
use mathlib.Core.Path.{◌≡◌, sym, ap, ◌∙◌}
use lib.Seq.{length-take-le}
use Rattle.model.specs.Refusals.{accepted, first_failing, own_tests}
use Rattle.image.specs.Header.{header_of}
use Rattle.grammar.specs.Answers.{verdict_of}
use Rattle.refusal.proofs.Given.{same_refusal}
use Rattle.rows.specs.Fill.{reply_of}
use Rattle.requests.specs.Request.{request_of}
use Rattle.analyser.proofs.Replies.{accepted_by, own_refused, own_accepted, rest_forms}
use Rattle.analyser.proofs.indexed.list.Goals as goal
use Rattle.analyser.proofs.indexed.list.Goals.{In_ok-own_verdict}

-- in the arm of a request that passes them
module _ (c : In_ok-own_verdict) where
  passed : first_failing (own_tests c.args.image.now (request_of c.args.request c.args.asked.now)) ≡ accepted
  passed = sym c.own_verdict.ensures ∙ ap verdict_of c.in_ok-own_verdict.was

pub own_verdict-requires : goal.own_verdict-requires
own_verdict-requires c = accepted_by c.args.image.now (header_of c.args.h) c.requires.image_value c.requires.h_value

pub slice_bounds-search_for-end : goal.slice_bounds-search_for-end
slice_bounds-search_for-end c = sym (length-take-le 39424 c.args.index.now c.requires.indexed.long)

pub slice_bounds-search_for-count : goal.slice_bounds-search_for-count
slice_bounds-search_for-count c = c.requires.indexed.long

pub slice_bounds-search_for-start : goal.slice_bounds-search_for-start
slice_bounds-search_for-start c = c.requires.indexed.long

pub search_for-found-requires : goal.search_for-found-requires
search_for-found-requires c =
    let a = c.args in
    record {
      accepted = accepted_by a.image.now (header_of a.h) c.requires.image_value c.requires.h_value;
      index_value = c.requires.indexed.index_is;
      may_be = rest_forms c.requires.indexed;
      asked_value = passed (goal.at.search_for-found-requires c).In_ok-own_verdict;
    }

pub returns-in_err-own_verdict : goal.returns-in_err-own_verdict
returns-in_err-own_verdict c =
    let a = c.args in
    let both = own_refused a.image.now (request_of a.request a.asked.now) a.out.now c.requires.image_value _ (sym c.in_err-own_verdict.ensures) in
    record { reply = ap reply_of (same_refusal c.from_residual.result _ c.from_residual.ensures.1) ∙ both.0; bytes = both.1 }

pub returns : goal.returns
returns c =
    let a = c.args in
    let request = request_of a.request a.asked.now in
    let found = c.search_for-found in
    let both = own_accepted a.image.now request a.out.now c.requires.image_value (passed (goal.at.returns c).In_ok-own_verdict) _ found.result found.ensures in
    record { reply = c.reply_for.ensures ∙ both.0; bytes = both.1 }
