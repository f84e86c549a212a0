-- `are_letters` meets its contract: the chain tests each byte of the part.
use Rattle.std.proofs.Common.{rules}
use borrow.Author.Tests.{tests}
use mathlib.Core.Path.{◌≡◌, ◌∙◌}
use Prim.Native.Nat.{◌-◌}
use lib.ListN.{take, drop}
use Rattle.std.specs.List.{list_all}
use Rattle.std.proofs.lemmas.Iterator.{YieldsList-from_slice}
use Rattle.std.proofs.lemmas.Iterator.Search.{all_from_yields_List}
use Rattle.model.specs.Lists.{within}
use Rattle.letters.proofs.Parts.{list_all-part}
use Rattle.letters.proofs.are_letters.Goals as goal

pub returns : goal.returns
returns c =
    let a = c.args in
    let right = within 2 a.letters in
    let part = take (a.end - a.from) (drop a.from a.bytes.now) in
    let tested : c.all.result ≡ list_all right part = all_from_yields_List {all = part} right _ _ _ c.all.ensures.ran (YieldsList-from_slice _ (cc)) (λ x b q k. search (rules, tests)) in
    tested ∙ list_all-part right a.from a.end a.bytes.now c.requires.0
