use Rattle.forms.specs.Filling.{SharedOf}
use Rattle.forms.proofs.slots.fill_shared.Given as goal

abbrev pub invariant-loop-i : goal.invariant-loop-i
invariant-loop-i l = SharedOf l.slots l.shared l.i
