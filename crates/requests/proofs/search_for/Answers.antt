-- `search_for` meets its contract, request by request: the search's query is the request's, and the buffer is lent from the first row on.
use borrow.Author.Rules.{rules}
use mathlib.Core.Path.{ap, ◌∙◌}
use Rattle.model.specs.Rows.{row_count}
use Rattle.rows.specs.Offering.{offer_all}
use Rattle.rows.specs.Fill.{put}
use Rattle.requests.proofs.Writable.{analysed_writable, none_writable}
use Rattle.requests.proofs.Requests.{analysis_readings, generation_readings}
use Rattle.requests.proofs.search_for.Goals as goal
use Rattle.requests.proofs.search_for.Goals.{In-Analysis, In-Generation}

pub search-requires : goal.search-requires
search-requires c =
    let writable = analysed_writable c.requires.accepted c.args.request c.args.asked.now c.in-Analysis.is c.requires.asked_value in
    record { accepted = c.requires.accepted; index_value = c.requires.index_value; may_be = (c.requires.may_be, writable); roomy = record { rows_in = search rules; fits = search rules } }

pub search-requires-in-Generation : goal.search-requires-in-Generation
search-requires-in-Generation c =
    record { accepted = c.requires.accepted; index_value = c.requires.index_value; may_be = (c.requires.may_be, none_writable); roomy = record { rows_in = search rules; fits = search rules } }

pub returns-in-Analysis : goal.returns-in-Analysis
returns-in-Analysis c =
    let a = c.args in
    c.search.ensures
    ∙ ap (offer_all (put (row_count a.out.now)) (a.out.now, 0)) (analysis_readings a.image.now a.request _ a.asked.now c.in-Analysis.is)

pub returns-in-Generation : goal.returns-in-Generation
returns-in-Generation c =
    let a = c.args in
    c.search-in-Generation.ensures
    ∙ ap (offer_all (put (row_count a.out.now)) (a.out.now, 0)) (generation_readings a.image.now a.request a.asked.now _ c.in-Generation.is)
