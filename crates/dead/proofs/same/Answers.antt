-- `same` meets its contract: what stands at a place is equal there, for every place.
use Rattle.std.proofs.Common.{rules, tests}
use Rattle.std.proofs.lemmas.Iterator.{YieldsList-from_slice, YieldsList-from_zip, same_from_all}
use Rattle.dead.proofs.same.Goals as goal

pub returns : goal.returns
returns c =
    let a = c.args in
    (same_from_all c.all.new.self _ _ _ _ c.all.ensures.ran (YieldsList-from_zip (YieldsList-from_slice a.slot.now cc) (YieldsList-from_slice a.key.now cc)) c.requires
    (λ x q k. search (rules, tests)) (λ x q k. search (rules, tests))).0
