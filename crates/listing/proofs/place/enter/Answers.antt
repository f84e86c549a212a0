-- `enter` meets its contract.
use Rattle.image.specs.Header.{header_of}
use Rattle.listing.proofs.Places.{entered_node, entered_stands}
use Rattle.listing.proofs.place.enter.Goals as goal

pub returns : goal.returns
returns c =
    let image = c.args.image.now in
    let h = header_of c.args.h in record { go = entered_node image h c.requires.accepted c.args.e c.requires.e_lt_entries c.entry_start-from.result c.form_length.result c.args.place c.entry_start-from.ensures.0 c.form_length.ensures.0; stands = entered_stands image h c.requires.accepted c.args.e c.requires.e_lt_entries c.entry_start-from.result c.form_length.result c.args.place c.entry_start-from.ensures.0 c.form_length.ensures.0 c.requires.standing }
