use mathlib.Core.Path.{◌≡◌}
use lib.ListN.{drop}
use Rattle.model.specs.GrammarOf.{grammar_of}
use Rattle.model.specs.Query.{entry_numbers}
use Rattle.rules.specs.Paths.{forms_of}
use Rattle.rules.proofs.PathLaws.{forms_from}
use Rattle.rules.proofs.paths.letter_at.Given as goal

abbrev pub invariant-loop-i : goal.invariant-loop-i
invariant-loop-i l = drop l.left (forms_from (grammar_of l.image).form (entry_numbers l.path) l.i l.left) ≡ drop l.t (forms_of l.image l.path)
