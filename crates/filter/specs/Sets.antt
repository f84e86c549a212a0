-- A set of positions as a number: binary digit i is position i.
use Rattle.std.specs.Prelude.{ℕ, T}
use Rattle.model.specs.Lists.{bit}

-- a number and the positions that it stands for
pub record Means (m : ℕ) (S : ℕ → Type 0) : Type 0 where
  pub only : (i : ℕ) → T (bit m i) → S i
  pub all : (i : ℕ) → S i → T (bit m i)
