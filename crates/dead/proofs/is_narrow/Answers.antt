-- `is_narrow` meets its contract: where all numbers are less, each is.
use Rattle.std.proofs.Common.{◌<◌, ◌≤◌, rules, tests, arith}
use Rattle.std.proofs.lemmas.Bool.Decides.{when_true}
use Rattle.std.proofs.lemmas.Iterator.{YieldsList-from_slice, cases_from_all}
use Rattle.dead.specs.Dead.{Narrow}
use Rattle.dead.proofs.is_narrow.Goals as goal

pub returns : goal.returns
unfolding Narrow
returns c =
    let key = c.args.key.now in
    let all = cases_from_all _ _ _ (λ n. n < 65536) (λ n. 65536 ≤ n) c.all.ensures.ran (YieldsList-from_slice key cc) (λ x q k. search (rules, tests)) (λ x q k. search (rules, tests)) in
    λ e k h. when_true _ _ e all k 0 (omega arith) h
