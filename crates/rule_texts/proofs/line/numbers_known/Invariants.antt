use mathlib.Core.Path.{◌≡◌}
use lib.ListN.{length}
use Rattle.model.specs.Lists.{every}
use Rattle.rule_texts.specs.Text.{is_known}
use Rattle.rule_texts.specs.Scan.{numbers_in}
use Rattle.rule_texts.proofs.line.numbers_known.Given as goal

abbrev pub invariant-loop-rest : goal.invariant-loop-rest
invariant-loop-rest l = every (is_known l.pairs) (numbers_in l.text) ≡ every (is_known l.pairs) (numbers_in l.rest)

abbrev pub decreases-loop-rest : goal.decreases-loop-rest
decreases-loop-rest l = length l.rest
