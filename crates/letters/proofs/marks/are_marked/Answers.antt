-- `are_marked` meets its contract: the chain tests each byte of the part.
use Rattle.std.proofs.Common.{rules}
use borrow.Author.Tests.{tests}
use mathlib.Core.Path.{◌≡◌, ◌∙◌}
use Prim.Native.Nat.{◌-◌}
use lib.ListN.{take, drop}
use Rattle.std.specs.List.{list_all}
use Rattle.std.proofs.lemmas.Iterator.{YieldsList-from_slice}
use Rattle.std.proofs.lemmas.Iterator.Search.{all_from_yields_List}
use Rattle.letters.specs.Marks.{is_marked}
use Rattle.letters.proofs.Parts.{list_all-part}
use Rattle.letters.proofs.marks.are_marked.Goals as goal

pub returns : goal.returns
returns c =
    let a = c.args in
    let marked = is_marked a.marks.now in
    let part = take (a.end - a.from) (drop a.from a.bytes.now) in
    let tested : c.all.result ≡ list_all marked part = all_from_yields_List {all = part} marked _ _ _ c.all.ensures.ran (YieldsList-from_slice _ (cc)) (λ x b q k. search (rules, tests)) in
    tested ∙ list_all-part marked a.from a.end a.bytes.now c.requires.0
