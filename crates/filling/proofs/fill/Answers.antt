-- `forms::fill` meets its contract.
use Rattle.image.specs.Header.{header_of}
use Rattle.filling.proofs.FormsLaws.{forms_of_lem}
use Rattle.filling.proofs.fill.Goals as goal

pub returns : goal.returns
returns c =
    forms_of_lem c.args.image.now (header_of c.args.h) c.requires.accepted c.fill_letters.new.out c.fill_slots.new.out c.fill_letters.ensures c.fill_slots.ensures
