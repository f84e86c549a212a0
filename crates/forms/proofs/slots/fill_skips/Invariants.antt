use Rattle.forms.specs.Filling.{SkipsOf}
use Rattle.forms.proofs.slots.fill_skips.Given as goal

abbrev pub invariant-loop-i : goal.invariant-loop-i
invariant-loop-i l = SkipsOf l.shared l.skips l.n l.i
