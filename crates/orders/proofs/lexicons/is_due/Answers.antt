-- `orders::lexicons::is_due` meets its contract.
use native.Mathlib.Omega.{arith}
use Rattle.image.specs.Header.{header_of}
use Rattle.lexicon.proofs.Laws.{lexicon_within}
use Rattle.orders.proofs.AcceptedLaws.{entries_ok}
use Rattle.orders.proofs.lexicons.is_due.Goals as goal

pub is_ready-requires : goal.is_ready-requires
is_ready-requires c =
    let image = c.args.image.now in
    record { accepted = c.requires.accepted; high_le_entries = omega (arith, lexicon_within image (header_of c.args.h) c.requires.accepted.laid (entries_ok image (header_of c.args.h) c.requires.accepted) c.args.x c.requires.x_lt_lexicons, c.first_entry-low.ensures.0, c.entry_count-many.ensures.0) }
