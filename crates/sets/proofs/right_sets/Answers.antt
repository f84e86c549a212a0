-- `right_sets` meets its contract: every set passed is right.
use borrow.Author.Rules.{rules}
use native.Mathlib.Omega.{arith}
use mathlib.Core.Path.{◌≡◌, sym, ap, ◌∙◌}
use Prim.Native.Nat.{ℕ}
use Rattle.model.specs.Lists.{below, every}
use Rattle.model.specs.RuleTables.{is_set}
use Rattle.image.specs.Header.{header_of}
use Rattle.model.proofs.Lists.{every_fails}
use Rattle.sets.proofs.Lists.{fails}
use Rattle.sets.proofs.LetterSets.{sets_tested}
use Rattle.sets.proofs.right_sets.Invariants.{right}
use Rattle.sets.proofs.right_sets.Goals as goal

pub returns-then-not-is_set : goal.returns-then-not-is_set
returns-then-not-is_set c =
    let a = c.args in
    let own = c.is_set.ensures ∙ ap (is_set a.h.letters) c.set_at.ensures.0 in
    sym (every_fails (right a.image.now a.h.letters) a.h.sets c.loop-i.i c.loop-i-test.true (fails c.is_set.result own (search rules)))
    ∙ sets_tested c.args.image.now (header_of c.args.h) c.requires

pub returns : goal.returns
returns c =
    let e : c.loop-i.i ≡ c.args.h.sets = omega arith in
    sym c.loop-i.invariant ∙ ap (λ (n : ℕ). every (right c.args.image.now c.args.h.letters) (below n)) e ∙ sets_tested c.args.image.now (header_of c.args.h) c.requires
