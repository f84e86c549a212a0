-- What a call that reads and matches says.
use Rattle.std.specs.Prelude.{ℕ, ◌+◌, ◌≤◌, ◌<◌, Bool, true, ◌≡◌, List, length, drop, eqb, Option, Some, None}
use Rattle.contexts.specs.Context.{Context, pair, any, star, sequence, either, bracket}
use Rattle.contexts.specs.Meaning.{pair_number}
use Rattle.contexts.specs.Reader.{Read, failed, got}
use Rattle.relations.specs.Rows.{Relates}
use Rattle.matching.specs.declared.Step.{Step}

-- a pair passes where it is the one of the number, or where there is no number
abbrev pub passes : Option ℕ → ℕ → Bool
passes None x = true
passes (Some n) x = eqb x n

-- a text t from which c was read goes on at a step's place with u, and the step's rows are the context's over the pairs s
abbrev pub Goes : List ℕ → List ℕ → Context → List ℕ → Step → Type 0
Goes t s c u a = (u ≡ drop a.at t) × (a.at ≤ length t) × Relates s c a.rows

-- Of a text t from which x was read, s the pairs: a step exactly where x is a context.
abbrev pub Follows : List ℕ → List ℕ → Read → Option Step → Type 0
Follows t s failed None = Unit {0}
Follows t s failed (Some a) = ⊥
Follows t s (got c u) None = ⊥
Follows t s (got c u) (Some a) = Goes t s c u a

-- a place of the text, and few pairs
pub record Placed (t : List ℕ) (from : ℕ) (s : List ℕ) : Type 0 where
  pub inside : from ≤ length t
  pub few : length s < 63

-- the number that three digits at a place of a text write, or none where three don't stand there
abbrev pub Numbered : List ℕ → ℕ → Read → Option ℕ → Type 0
Numbered t at failed n = n ≡ None
Numbered t at (got (pair a b d) u) n = (n ≡ Some (pair_number a b d)) × (pair_number a b d ≤ 999) × (u ≡ drop (at + 3) t) × (at + 3 ≤ length t)
Numbered t at (got any u) n = ⊥
Numbered t at (got (star c) u) n = ⊥
Numbered t at (got (sequence c d) u) n = ⊥
Numbered t at (got (either c d) u) n = ⊥
Numbered t at (got (bracket c) u) n = ⊥
