-- `first_entry` meets its contract: the entries of the lexicons passed, each count at most 65,535.
use native.Mathlib.Omega.{arith}
use mathlib.Core.Path.{sym, ap₂, ◌∙◌}
use Prim.Native.Nat.{ℕ, ◌+◌}
use Rattle.lexicon.proofs.Laws.{first_none, first_more}
use Rattle.lexicon.proofs.first_entry.Goals as goal

pub loop-i-init : goal.loop-i-init
loop-i-init c = (omega arith, sym (first_none c.args.image.now))

pub loop-i-preserved : goal.loop-i-preserved
loop-i-preserved c =
    let l = c.loop-i in
    (omega arith, ap₂ (λ (n m : ℕ). n + m) l.invariant.1 c.entry_count-sum.ensures.0 ∙ sym (first_more c.args.image.now l.i))
