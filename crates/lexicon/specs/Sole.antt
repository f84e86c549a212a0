-- An entry's ways on in one number, where it has one.
use Rattle.std.specs.Prelude.{ℕ, ◌<◌, ◌^◌, Bool, true, false, ◌≡◌, ◌⊎◌, List, eqb}
use Rattle.model.specs.Lexicon.{may_stop, goes_to}

-- 255 and a lexicon are true of it; 254 says nothing
pub record Sole (bits : ℕ) (stop : Bool) (way : ℕ) : Type 0 where
  pub in_bound : (way < 64) ⊎ ((way ≡ 254) ⊎ (way ≡ 255))
  pub ends : way ≡ 255 → (stop ≡ true) × (bits ≡ 0)
  pub goes : way < 64 → (stop ≡ false) × (bits ≡ 2 ^ way)

-- the same of an entry's bytes
pub record WayOf (entry : List ℕ) (form way : ℕ) : Type 0 where
  pub in_bound : (way < 64) ⊎ ((way ≡ 254) ⊎ (way ≡ 255))
  pub ends : way ≡ 255 → (may_stop entry form ≡ true) × ((x : ℕ) → x < 64 → goes_to entry form x ≡ false)
  pub goes : way < 64 → (may_stop entry form ≡ false) × ((x : ℕ) → x < 64 → goes_to entry form x ≡ eqb way x)
