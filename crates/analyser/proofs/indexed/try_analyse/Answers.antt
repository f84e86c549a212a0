-- `try_analyse` meets its contract: the word's own tests, and then the search, which may give up.
use mathlib.Core.Path.{◌≡◌, sym, ap, ◌∙◌}
use lib.Seq.{length-take-le}
use Rattle.model.specs.Query.{analysis}
use Rattle.model.specs.Refusals.{accepted, first_failing, own_tests}
use Rattle.image.specs.Header.{header_of}
use Rattle.grammar.specs.Answers.{verdict_of}
use Rattle.walk.proofs.Giving.{offered_all}
use Rattle.analyser.proofs.Replies.{accepted_by, own_refused, own_accepted, rest_forms}
use Rattle.analyser.proofs.indexed.try_analyse.Goals as goal
use Rattle.analyser.proofs.indexed.try_analyse.Goals.{In-Ok}

-- in the arm of a word that passes them
module _ (c : In-Ok) where
  passed : first_failing (own_tests c.args.image.now (analysis c.args.word.now)) ≡ accepted
  passed = sym c.own_verdict.ensures ∙ ap verdict_of c.in-Ok.is

pub own_verdict-requires : goal.own_verdict-requires
own_verdict-requires c = accepted_by c.args.image.now (header_of c.args.h) c.requires.image_value c.requires.h_value

pub slice_bounds-try_word-end : goal.slice_bounds-try_word-end
slice_bounds-try_word-end c = sym (length-take-le 39424 c.args.index.now c.requires.indexed.long)

pub slice_bounds-try_word-count : goal.slice_bounds-try_word-count
slice_bounds-try_word-count c = c.requires.indexed.long

pub slice_bounds-try_word-start : goal.slice_bounds-try_word-start
slice_bounds-try_word-start c = c.requires.indexed.long

pub try_word-found-requires : goal.try_word-found-requires
try_word-found-requires c =
    let a = c.args in
    record {
      accepted = accepted_by a.image.now (header_of a.h) c.requires.image_value c.requires.h_value;
      index_value = c.requires.indexed.index_is;
      may_be = rest_forms c.requires.indexed;
      word_value = passed (goal.at.try_word-found-requires c).In-Ok;
    }

pub returns-then-found-capacity : goal.returns-then-found-capacity
returns-then-found-capacity c =
    let a = c.args in
    let found = c.try_word-found in
    let all = offered_all c.if-found-capacity.true found.ensures in
    let both = own_accepted a.image.now (analysis a.word.now) a.out.now c.requires.image_value (passed (goal.at.returns-then-found-capacity c).In-Ok) _ found.result all in
    (c.reply_for.ensures ∙ both.0, both.1)

pub returns-in-Err : goal.returns-in-Err
returns-in-Err c =
    let a = c.args in
    let refused = sym c.own_verdict.ensures ∙ ap verdict_of c.in-Err.is in
    own_refused a.image.now (analysis a.word.now) a.out.now c.requires.image_value _ refused

pub returns-else-found-capacity : goal.returns-else-found-capacity
returns-else-found-capacity c = tt
