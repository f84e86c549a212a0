-- `store` meets its contract: at the loop's head the numbers before `at` are stored.
use borrow.Author.Rules.{rules}
use native.Mathlib.Omega.{arith}
use mathlib.Core.Path.{refl, ◌∙◌}
use lib.ListN.{length, get_or}
use lib.Seq.{take-length}
use Rattle.dead.specs.Dead.{Narrow}
use Rattle.dead.proofs.Agreeing.{agree_set, agree_all}
use Rattle.dead.proofs.store.Goals as goal

pub overflow_cast-slot : goal.overflow_cast-slot
unfolding Narrow
overflow_cast-slot c = omega (arith, c.requires.narrow c.loop-at.at (omega arith))

pub loop-at-preserved : goal.loop-at-preserved
loop-at-preserved c =
    let i = c.loop-at.at in
    let key = c.args.key.now in
    (search rules, agree_set c.loop-at.slot key i (get_or key i 0) (omega arith) refl c.loop-at.invariant.1)

pub returns : goal.returns
returns c =
    let key = c.args.key.now in
    agree_all c.loop-at.slot key (length key) (omega arith) (omega arith) (λ k h. c.loop-at.invariant.1 k (omega (arith, c.loop-at-test.false))) ∙ take-length key
