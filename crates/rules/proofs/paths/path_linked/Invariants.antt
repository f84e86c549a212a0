use mathlib.Core.Path.{◌≡◌}
use lib.ListN.{drop}
use Rattle.model.specs.GrammarOf.{grammar_of}
use Rattle.model.specs.Readings.{is_linked}
use Rattle.model.specs.Query.{entry_numbers}
use Rattle.rules.proofs.PathLaws.{linked_from}
use Rattle.rules.proofs.paths.path_linked.Given as goal

abbrev pub invariant-loop-i : goal.invariant-loop-i
invariant-loop-i l = linked_from l.image l.bits l.stop (drop l.i (entry_numbers l.path)) ≡ is_linked (grammar_of l.image) (entry_numbers l.path)
