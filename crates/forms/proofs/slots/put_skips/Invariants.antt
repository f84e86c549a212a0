use Prim.Native.Nat.{ℕ, ◌+◌, ◌<◌}
use Rattle.forms.specs.Slots.{skip_to}
use Rattle.forms.specs.Filling.{SkipAt, SkipsOf}
use Rattle.forms.proofs.slots.put_skips.Given as goal

abbrev pub invariant-loop-d : goal.invariant-loop-d
invariant-loop-d l = record { later : SkipsOf l.shared l.skips l.n (l.i + 1); here : (e : ℕ) → e < l.d → SkipAt l.shared l.n l.i e (skip_to l.skips l.i e) }
