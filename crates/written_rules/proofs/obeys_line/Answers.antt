-- The line is the rule of its parts, and the letter is the lexical letter of its own pair.
use mathlib.Core.Path.{refl, ap, ◌∙◌}
use Rattle.model.specs.GrammarOf.{grammar_of}
use Rattle.judge.proofs.PairingLaws.{lexical_is}
use Rattle.rule_texts.specs.Line.{Line}
use Rattle.rule_texts.specs.Parts.{divided_rule}
use Rattle.rule_texts.specs.Text.{obeys_line}
use Rattle.written_rules.proofs.Lined.{obeyed_so}
use Rattle.written_rules.proofs.obeys_line.Goals as goal

pub returns-in-Some : goal.returns-in-Some
returns-in-Some c =
    let a = c.args in
    let lexical = (grammar_of a.image.now).lexical in
    let letter = c.from.ensures ∙ lexical_is a.image.now refl c.lexical_side-letter.ensures in
    λ ps l. obeyed_so lexical ps a.pairing.pairs.now a.pairing.letters.now l (divided_rule c.in-Some.parts) c.from.result letter c.obeys_rule.result c.obeys_rule.ensures
    ∙ ap (λ (x : Line). obeys_line lexical x ps) c.in-Some.ensures.rule
