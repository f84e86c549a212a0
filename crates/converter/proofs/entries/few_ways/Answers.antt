-- `few_ways` meets its contract: the machine counts the lexicons named, and an ending is one way more.
use Prim.Native.Nat.{ℕ, ◌+◌}
use native.Mathlib.Omega.{arith}
use mathlib.Core.Path.{sym, ap₂, ◌∙◌}
use lib.Dec.{leb}
use Rattle.converter.proofs.EntryLaws.{count_ones, ending_number}
use Rattle.converter.proofs.entries.few_ways.Goals as goal

pub returns : goal.returns
returns c = ap₂ (λ (m n : ℕ). leb (m + n) 1) (sym (count_ones c.args.bits (omega (arith, c.ranges.bits)))) (c.from.ensures ∙ ending_number c.args.stop)
