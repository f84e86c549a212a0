use Prim.Native.Nat.{◌+◌}
use mathlib.Core.Path.{◌≡◌}
use lib.ListN.{length}
use Rattle.model.specs.Lines.{lines_of}
use Rattle.rule_texts.proofs.Each.{Asked, rule_line}
use Rattle.rule_texts.proofs.text.is_text.Given as goal

abbrev pub invariant-loop-lines : goal.invariant-loop-lines
invariant-loop-lines l = record {
  right : Asked rule_line l.text l.rest;
  counted : l._lines + length (lines_of l.rest) ≡ length (lines_of l.text);
}
