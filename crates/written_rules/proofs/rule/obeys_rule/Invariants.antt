use Prim.Native.Nat.{◌-◌}
use mathlib.Core.Bool.{true}
use mathlib.Core.Path.{◌≡◌}
use Rattle.contexts.specs.Operators.{all}
use Rattle.rule_texts.specs.Parts.{divided_rule}
use Rattle.written_rules.specs.Places.{kept_at}
use Rattle.written_rules.proofs.rule.obeys_rule.Given as goal

abbrev pub invariant-loop-i : goal.invariant-loop-i
invariant-loop-i l = all (kept_at (divided_rule l.rule) l.letter l.pairing.pairs.now l.pairing.letters.now) (l.i - 1) ≡ true
