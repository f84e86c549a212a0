use Rattle.forms.specs.Filling.{FlagsOf}
use Rattle.forms.proofs.pairs.fill_flags.Given as goal

abbrev pub invariant-loop-p : goal.invariant-loop-p
invariant-loop-p l = FlagsOf l.image l.flags l.p
