-- With m bytes of the text left the measures are 4 m, and 1, 2, 3 more.
use Prim.Native.Nat.{◌+◌, ◌-◌, ◌*◌}
use lib.ListN.{length}
use Rattle.matching.proofs.+match_atom_match_side_match_tight_match_whole.Given as goal

abbrev pub decreases-match_atom : goal.decreases-match_atom
decreases-match_atom l = 4 * (length l.text.now - l.from) + 0

abbrev pub decreases-match_side : goal.decreases-match_side
decreases-match_side l = 4 * (length l.text.now - l.from) + 2

abbrev pub decreases-match_tight : goal.decreases-match_tight
decreases-match_tight l = 4 * (length l.text.now - l.from) + 1

abbrev pub decreases-match_whole : goal.decreases-match_whole
decreases-match_whole l = 4 * (length l.text.now - l.from) + 3
