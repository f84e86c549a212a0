use Rattle.model.specs.GrammarOf.{grammar_of}
use Rattle.written_rules.proofs.Framing.{Lettered}
use Rattle.written_rules.proofs.boundaries.lexical_letters.Given as goal

abbrev pub invariant-loop-i : goal.invariant-loop-i
invariant-loop-i l = Lettered (grammar_of l.image).lexical l.letters l.pairing l.i
