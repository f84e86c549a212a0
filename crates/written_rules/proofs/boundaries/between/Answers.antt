-- The boundary pair stands everywhere at first, and then each pair is put in its place.
use native.Mathlib.Omega.{arith}
use Rattle.written_rules.proofs.Framing.{frame_begun, frame_done}
use Rattle.written_rules.proofs.boundaries.between.Goals as goal

pub loop-i-init : goal.loop-i-init
loop-i-init c = frame_begun c.args.pairing.now

pub returns : goal.returns
returns c =
    let f = c.loop-i.invariant in
    (f.long, frame_done c.loop-i.pairs c.args.pairing.now c.loop-i.i (omega (arith, c.requires)) (omega (arith, f.so_far, c.loop-i-test.false)) f)
