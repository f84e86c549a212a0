use mathlib.Core.Bool.{false}
use mathlib.Core.Path.{◌≡◌}
use Prim.Native.Nat.{ℕ, ◌+◌, ◌*◌, ◌≤◌}
use Rattle.model.specs.Lists.{below, any, bit}
use Rattle.model.specs.Lexicon.{first_entry}
use Rattle.rules.proofs.PathLaws.{named}
use Rattle.rules.proofs.paths.may_open.Given as goal

abbrev pub invariant-loop-x : goal.invariant-loop-x
invariant-loop-x l = record {
  first_is : l.first ≡ first_entry l.image l.x;
  small : l.first ≤ 65535 * l.x;
  moved : (i : ℕ) → bit l.rest i ≡ bit l.bits (l.x + i);
  none : any (named l.image l.h.lexicons l.bits l.e) (below l.x) ≡ false;
}
