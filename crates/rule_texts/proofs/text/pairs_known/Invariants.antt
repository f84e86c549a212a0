use lib.ListN.{length}
use Rattle.rule_texts.proofs.Each.{Asked, rule_line, knows_line}
use Rattle.rule_texts.proofs.text.pairs_known.Given as goal

abbrev pub invariant-loop-line : goal.invariant-loop-line
invariant-loop-line l = record { right : Asked rule_line l.text l.rest; known : Asked (knows_line l.pairs) l.text l.rest }

abbrev pub decreases-loop-line : goal.decreases-loop-line
decreases-loop-line l = length l.rest
