-- `offer` meets its contract: a row that is passed over is counted; else the part of the buffer that is lent has the row, and the rest is as it was.
use native.Mathlib.Omega.{arith}
use mathlib.Core.Path.{◌≡◌, sym}
use Prim.Native.Nat.{◌+◌, ◌*◌, ◌-◌}
use Rattle.rows.specs.Trail.{reading_of}
use Rattle.rows.specs.Fill.{passed_over}
use Rattle.rows.proofs.Fill.{put_pass, put_room, put_full}
use Rattle.rows.proofs.offer.Goals as goal
use Rattle.rows.proofs.offer.Goals.{then-passed-found, else-passed-found}

pub returns-then-capacity-found : goal.returns-then-capacity-found
returns-then-capacity-found c = sym (put_full c.args.capacity c.args.rows.now c.args.found (reading_of c.args.t) (omega arith))

pub returns : goal.returns
returns c =
    let capacity = c.args.capacity in
    let rows = c.args.rows.now in
    let found = c.args.found in
    let r = reading_of c.args.t in
    let at = 116 * (found - passed_over capacity rows) in
    let long : (at + 116) - at ≡ 116 = omega arith in
    elim c.if-passed-found.branch [
      | then-passed-found w ↦ rw (w.rows-is, long, w.write_row.ensures) (sym (put_room capacity rows found r (omega arith) (omega arith)))
      | else-passed-found w ↦ rw w.rows-is (sym (put_pass capacity rows found r (omega arith)))
    ]
