use Prim.Native.Nat.{ℕ, ◌≤◌}
use Rattle.judge.specs.Reading.{NullsTold}
use Rattle.judge.proofs.PairingLaws.{Counted}
use Rattle.judge.proofs.reading.count_nulls.Given as goal

abbrev pub invariant-loop-p : goal.invariant-loop-p
invariant-loop-p g l =
    (l.count ≤ l.p-index) × ((side : ℕ → ℕ) → NullsTold (goal.F-post g l.null) side l.pairing → Counted side l.pairing l.count l.p-index)
