use Prim.Native.Nat.{◌^◌}
use mathlib.Core.Path.{◌≡◌}
use Rattle.model.specs.Query.{exactly}
use Rattle.filter.specs.Letters.{Wrote}
use Rattle.filter.proofs.word.fill.Given as goal

abbrev pub invariant-loop-letter : goal.invariant-loop-letter
invariant-loop-letter l = (l.one ≡ 2 ^ l.letter-index) × Wrote l.rows (exactly l.word) l.masks l.letter-index
