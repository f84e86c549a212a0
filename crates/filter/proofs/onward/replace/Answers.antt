-- `filter::onward::replace` meets its contract: what is kept of the lexicon becomes the union over its slots, which leaves nothing out.
use mathlib.Core.Path.{◌∙◌}
use lib.ListN.{length-set}
use Rattle.filter.proofs.Unions.{formed, slot_at, union_reaches}
use Rattle.filter.proofs.onward.replace.Goals as goal

pub lexicon_back-requires : goal.lexicon_back-requires
lexicon_back-requires c =
    let slotted = c.requires.by_index.2 in
    let range = c.requires.low_value in
    record { accepted = c.requires.accepted; filled = c.requires.filled; reached = c.requires.reached; formed = (formed slotted, range.1.1.0); by_index = slot_at slotted range.1.1.1 }

pub returns : goal.returns
returns c =
    let a = c.args in
    let m = c.lexicon_back.result in
    let slotted = c.requires.by_index in
    let y = c.requires.y_bound in
    let range = c.requires.low_value in
    let all = union_reaches a.image.now a.masks.now a.flags.now a.reach.now a.slots.now slotted.0 slotted.1 a.low a.high a.y m slotted.2 y.0 y.1 in
    record { reached = length-set a.reach.now a.y m ∙ c.requires.reached; reaches = all range.0 range.1.0 range.1.1.1 c.requires.reached c.lexicon_back.ensures }
