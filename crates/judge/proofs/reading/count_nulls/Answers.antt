-- `count_nulls` meets its contract, by the law of a loop that counts the nulls of one level.
use native.Mathlib.Omega.{arith}
use Rattle.judge.proofs.PairingLaws.{counted_none}
use Rattle.judge.proofs.reading.count_nulls.Goals as goal

pub loop-p-init : goal.loop-p-init
loop-p-init g c = (omega arith, λ side told. counted_none side c.args.pairing.now)
