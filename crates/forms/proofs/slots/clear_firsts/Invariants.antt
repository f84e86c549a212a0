use mathlib.Core.Path.{◌≡◌}
use Rattle.model.specs.Lexicon.{first_entry}
use Rattle.forms.specs.Filling.{FirstsCleared}
use Rattle.forms.proofs.slots.clear_firsts.Given as goal

abbrev pub invariant-loop-x : goal.invariant-loop-x
invariant-loop-x l = record { first_is : l.first ≡ first_entry l.image l.x; cleared : FirstsCleared l.image l.initial.shared l.shared l.x }
