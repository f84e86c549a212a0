use Rattle.forms.specs.Filling.{SlotsOf}
use Rattle.forms.proofs.slots.fill_slots.Given as goal

abbrev pub invariant-loop-i : goal.invariant-loop-i
invariant-loop-i l = SlotsOf l.image l.keys l.slots l.i
