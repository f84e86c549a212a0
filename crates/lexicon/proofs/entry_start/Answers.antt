-- `entry_start` meets its contract: an entry is a record of kind 6.
use native.Mathlib.Omega.{arith}
use Rattle.model.specs.Blocks.{kinds}
use Rattle.lexicon.proofs.entry_start.Goals as goal

pub record_start-requires : goal.record_start-requires
unfolding kinds
record_start-requires c = record { limited = c.requires.limited; i_bound = c.requires.e_lt_entries }
