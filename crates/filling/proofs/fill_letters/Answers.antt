-- `filling::fill_letters` meets its contract: its three parts are put in place one after another.
use Rattle.filling.proofs.FormsLaws.{letters_filled}
use Rattle.filling.proofs.fill_letters.Goals as goal

pub returns : goal.returns
returns c =
    let rows = c.fill_rows.ensures in
    let flags = c.fill_flags.ensures in
    let order = c.fill_order.ensures in
    letters_filled c.args.out.now c.fill_rows.new.rows c.fill_flags.new.flags c.fill_order.new.row c.requires.out_len rows.long flags.long order.long c.args.image.now c.args.h.pairs
    c.args.h.lexicons rows flags order
