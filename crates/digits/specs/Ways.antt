-- A set of lexicons as a number: binary digit x is lexicon x.
use Rattle.std.specs.Prelude.{ℕ, ◌+◌, ◌*◌, ◌<◌, Bool, false, ◌≡◌, List, [], ◌∷◌, T}
use Rattle.model.specs.Lists.{bit}

-- bytes as one number, the low byte first
abbrev pub number_of : List ℕ → ℕ
number_of [] = 0
number_of (b ∷ bs) = b + 256 * number_of bs

-- the number's digits below 64 are those that pass
abbrev pub Names : (ℕ → Bool) → ℕ → Type 0
Names goes bits = (x : ℕ) → x < 64 → goes x ≡ bit bits x

-- x is the lowest digit
pub record Lowest (bits x : ℕ) : Type 0 where
  pub there : T (bit bits x)
  pub none_below : (y : ℕ) → y < x → bit bits y ≡ false
