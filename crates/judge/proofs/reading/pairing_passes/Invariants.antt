use mathlib.Core.Path.{◌≡◌}
use lib.ListN.{drop}
use Rattle.model.specs.GrammarOf.{grammar_of}
use Rattle.model.specs.Readings.{passes}
use Rattle.rules.specs.Live.{Live}
use Rattle.judge.proofs.PairingLaws.{passes_in}
use Rattle.judge.proofs.reading.pairing_passes.Given as goal

abbrev pub invariant-loop-p : goal.invariant-loop-p
invariant-loop-p l = Live l.image l.states × (passes_in l.image l.states (drop l.p-index l.pairing) ≡ passes (grammar_of l.image) l.pairing)
