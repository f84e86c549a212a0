-- `forms::slots::share` meets its contract.
use native.Mathlib.Omega.{arith}
use Rattle.image.specs.Header.{header_of}
use Rattle.forms.proofs.SlotLaws.{shared_cleared}
use Rattle.forms.proofs.SlottedLaws.{slot_short}
use Rattle.forms.proofs.slots.share.Goals as goal

pub fill_shared-requires : goal.fill_shared-requires
fill_shared-requires c =
    let a = c.args in
    record { slots_len = (c.requires.held.held.long, (omega (arith, c.requires.accepted.laid.limits.entries_most), c.requires.shared_len)); by_index = slot_short a.image.now (header_of a.h) c.requires.accepted a.slots.now c.requires.held }

pub returns : goal.returns
returns c =
    let a = c.args in
    let old = c.fill_shared.new.shared in
    let new = c.clear_firsts.new.shared in
    record { neighbours = shared_cleared a.image.now a.slots.now old new a.h.entries a.h.lexicons c.fill_shared.ensures c.clear_firsts.ensures; firsts = c.clear_firsts.ensures.firsts }
