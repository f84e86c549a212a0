-- The text is cut where the byte is found, and lacks it where it is not found.
use Prim.Native.Nat.{◌+◌}
use mathlib.Core.Path.{sym, ◌∙◌}
use Rattle.rule_texts.proofs.Found.{cut_there, cut_nowhere, rest_whole}
use Rattle.rule_texts.proofs.split_once.Goals as goal

pub returns-in_err-at : goal.returns-in_err-at
returns-in_err-at c = let a = c.args in rw c.from_residual.ensures (cut_nowhere a.b a.text.now (sym c.first.ensures ∙ c.in_err-at.was))

pub returns : goal.returns
returns c =
    let a = c.args in
    let k = cut_there a.b a.text.now c.in_ok-at.at (sym c.first.ensures ∙ c.in_ok-at.was) in
    (k.0, k.1, rest_whole a.text.now (c.in_ok-at.at + 1) ∙ k.2)
