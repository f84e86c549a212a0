-- `check_lexicon` meets its contract: the first that fails of tests 8 and 14.
use mathlib.Core.Path.{sym, ◌∙◌}
use Rattle.grammar.proofs.Verdicts.{accepted_lexicon, refused_8, refused_14}
use Rattle.grammar.proofs.check_lexicon.Goals as goal

pub returns-then-right_lexicon : goal.returns-then-right_lexicon
returns-then-right_lexicon c = accepted_lexicon c.args.image.now (sym c.if-right_lexicon.true ∙ c.right_lexicon.ensures)

pub returns-then-not-right_entries : goal.returns-then-not-right_entries
returns-then-not-right_entries c = refused_8 c.args.image.now (sym c.right_entries.ensures ∙ c.if-not-right_entries.true)

pub returns : goal.returns
returns c =
    refused_14 c.args.image.now (sym c.if-right_lexicon.false ∙ c.right_lexicon.ensures) (sym c.right_entries.ensures ∙ c.if-not-right_entries.false)
