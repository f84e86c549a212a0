use mathlib.Core.Path.{◌≡◌}
use lib.ListN.{length}
use Rattle.image.specs.Index.{candidate_row}
use Rattle.tables.proofs.RowByRow.{rows_to}
use Rattle.index.proofs.fill_candidates.Given as goal

abbrev pub invariant-loop-a : goal.invariant-loop-a
invariant-loop-a l = (length l.out ≡ 30976) × (l.out ≡ rows_to (candidate_row l.image) 121 l.a)
