use Prim.Native.Nat.{ℕ}
use mathlib.Core.Bool.{Bool}
use mathlib.Core.List.{List}
use lib.ListN.{length}
use Rattle.model.specs.GrammarOf.{grammar_of}
use Rattle.rule_texts.specs.Line.{read_rule}
use Rattle.rule_texts.specs.Text.{obeys_line}
use Rattle.rule_texts.proofs.Each.{Asked, rule_line, knows_line}
use Rattle.written_rules.specs.Places.{LaidOut}
use Rattle.written_rules.proofs.obeys_lines.Given as goal

abbrev pub obeysIt : (ℕ → ℕ) → List ℕ → List ℕ → Bool
obeysIt lexical ps l = obeys_line lexical (read_rule l) ps

abbrev pub invariant-loop-line : goal.invariant-loop-line
invariant-loop-line l = record {
  right : Asked rule_line l.text l.rest;
  known : Asked (knows_line l.h.pairs) l.text l.rest;
  obeyed : (ps : List ℕ) → LaidOut (grammar_of l.image).lexical ps l.pairing.pairs.now l.pairing.letters.now → Asked (obeysIt (grammar_of l.image).lexical ps) l.text l.rest;
}

abbrev pub decreases-loop-line : goal.decreases-loop-line
decreases-loop-line l = length l.rest
