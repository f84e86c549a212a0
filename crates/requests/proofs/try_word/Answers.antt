-- `try_word` meets its contract: the search for a word, which may give up, is asked for the readings of analysis, from the first row on.
use borrow.Author.Rules.{rules}
use mathlib.Core.Path.{refl}
use Rattle.walk.proofs.Giving.{offered_same}
use Rattle.requests.specs.declared.Request.TheVariants.{Analysis}
use Rattle.requests.proofs.Writable.{analysed_writable}
use Rattle.requests.proofs.Requests.{analysis_readings}
use Rattle.requests.proofs.try_word.Goals as goal

pub try_search-requires : goal.try_search-requires
try_search-requires c =
    let writable = analysed_writable c.requires.accepted Analysis c.args.word.now refl c.requires.word_value in
    record { accepted = c.requires.accepted; index_value = c.requires.index_value; may_be = (c.requires.may_be, writable); roomy = record { rows_in = search rules; fits = search rules } }

pub returns : goal.returns
returns c =
    let a = c.args in
    offered_same (analysis_readings a.image.now Analysis _ a.word.now refl) refl c.try_search.ensures
