-- A letter more stands in the place of its pair.
use Rattle.model.specs.GrammarOf.{grammar_of}
use Rattle.judge.proofs.PairingLaws.{lexical_is}
use Rattle.written_rules.proofs.Framing.{lettered_more}
use Rattle.written_rules.proofs.boundaries.lexical_letters.Goals as goal

pub loop-i-preserved : goal.loop-i-preserved
loop-i-preserved c =
    let a = c.args in
    lettered_more (grammar_of a.image.now).lexical a.pairing.now c.loop-i.letters c.loop-i.i c.lexical_side.result.0 c.requires.pairing_len_bound c.loop-i-test.true
    (lexical_is a.image.now c.from.ensures c.lexical_side.ensures) c.loop-i.invariant
