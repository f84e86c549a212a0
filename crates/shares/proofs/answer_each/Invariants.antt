-- The places and the shares of the words passed are laid.
use Rattle.std.proofs.Common.{◌*◌}
use Rattle.shares.specs.Words.{place_at, share_at}
use Rattle.shares.proofs.Over.{Over}
use Rattle.shares.proofs.answer_each.Given as goal

abbrev pub invariant-loop-i : goal.invariant-loop-i
invariant-loop-i l =
    Over 8 (place_at l.image l.words l.share) l.initial.replies l.i l.replies
    × Over (116 * l.share) (share_at l.image l.words l.share l.initial.out) l.initial.out l.i l.out
