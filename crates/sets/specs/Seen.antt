-- What a side sees of a letter, so that a side that names a set is compared as any other.
use Rattle.std.specs.Prelude.{ℕ, ◌-◌, ◌<◌, cond, ◌≡◌, List, [], get_or}
use Rattle.model.specs.Lists.{byte}
use Rattle.model.specs.RuleTables.{names_set, in_set}

-- a side that names a set sees its own number where the set has the letter, and 254, which it never is, where not; any other side sees the letter
abbrev pub seen_by : List (List ℕ) → ℕ → ℕ → ℕ
seen_by sets side letter = cond (names_set side) (cond (in_set (get_or sets (side - 128) []) letter) side 254) letter

-- the first letters as a side sees them
pub record Seen (sets : List (List ℕ)) (side : ℕ) (letters : List ℕ) (n : ℕ) (seen : List ℕ) : Type 0 where
  pub each : (p : ℕ) → p < n → byte seen p ≡ seen_by sets side (byte letters p)
