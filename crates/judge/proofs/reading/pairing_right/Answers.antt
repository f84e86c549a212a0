-- `pairing_right` meets its contract: the length decides where it is wrong, and else every pair.
use Rattle.std.proofs.Common.{ℕ, Bool, rules, ◌≡◌, sym, ◌∙◌}
use Rattle.std.specs.List.{list_all}
use Rattle.std.proofs.lemmas.Iterator.{YieldsList-from_slice}
use Rattle.std.proofs.lemmas.Iterator.Search.{all_from_yields_List}
use borrow.Author.Tests.{tests}
use lib.Dec.{ltb}
use Rattle.judge.proofs.PairingLaws.{pairing_empty, pairing_long, pairing_some, every-list_all}
use Rattle.judge.proofs.reading.pairing_right.Goals as goal
use Rattle.judge.proofs.reading.pairing_right.Goals.{then-n-lt1-via-then-n-lt1, then-n-lt1-via-else-n-lt1+then-n-gt40}

pub returns-then-n-lt1 : goal.returns-then-n-lt1
returns-then-n-lt1 c =
    let a = c.args in
    elim c.then-n-lt1.branch [
      | then-n-lt1-via-then-n-lt1 w ↦ sym (pairing_empty a.h.pairs a.pairing.now w.if-n-lt1.true)
      | then-n-lt1-via-else-n-lt1+then-n-gt40 w ↦ sym (pairing_long a.h.pairs a.pairing.now w.if-n-gt40.true)
    ]

pub returns : goal.returns
returns c =
    let a = c.args in
    let there : ℕ → Bool = λ p. ltb p a.h.pairs in
    let all : c.all.result ≡ list_all there a.pairing.now =
    all_from_yields_List there _ _ _ c.all.ensures.ran (YieldsList-from_slice _ cc) (λ x b q k. search (rules, tests)) in
    all ∙ sym (every-list_all there a.pairing.now) ∙ pairing_some a.h.pairs a.pairing.now c.if-n-lt1.false c.if-n-gt40.false
