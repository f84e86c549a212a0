-- Which entries may open at a place: all of them, as a range and a set of lexicons, and the next one.
use Rattle.std.specs.Prelude.{ℕ, ◌<◌, ◌≤◌, Bool, true, false, ◌&&◌, ◌≡◌, List, T}
use Rattle.model.specs.Lists.{bit}
use Rattle.model.specs.Blocks.{header}
use Rattle.model.specs.Query.{Pattern}
use Rattle.rules.specs.Paths.{in_some}
use Rattle.listing.specs.declared.opening.Ways.{Ways}
use Rattle.listing.specs.declared.opening.Next.{Next}
use Rattle.listing.specs.Places.{ways_after}

-- entry e may open after entry `last`, with n entries read, where this is asked of the path
abbrev pub may_enter : List ℕ → Pattern → ℕ → ℕ → ℕ → Bool
may_enter image t last n e = ways_after image last e && t.allows n e

-- where the lexicons of a set come next
abbrev pub may_enter_some : List ℕ → Pattern → ℕ → ℕ → ℕ → Bool
may_enter_some image t bits n e = in_some image (header image).lexicons bits e && t.allows n e

-- a set names lexicons that there are, and no other
abbrev pub Known : ℕ → ℕ → Type 0
Known bits lexicons = (x : ℕ) → T (bit bits x) → x < lexicons

-- the entries of its lexicons are those that pass a test
pub record SetOf (image : List ℕ) (may : ℕ → Bool) (bits : ℕ) : Type 0 where
  pub known : Known bits (header image).lexicons
  pub some : (e : ℕ) → may e ≡ in_some image (header image).lexicons bits e

-- what is told of the entries that may open, from the low end on: those of the range, and past it those of the set
pub record WaysOf (image : List ℕ) (may : ℕ → Bool) (ways : Ways) : Type 0 where
  pub low_in : ways.low ≤ (header image).entries
  pub in_bound : ways.high ≤ (header image).entries
  pub known : Known ways.rest (header image).lexicons
  pub inside : (e : ℕ) → ways.low ≤ e → e < ways.high → may e ≡ true
  pub past : (e : ℕ) → ways.high ≤ e → may e ≡ in_some image (header image).lexicons ways.rest e

-- e is the first from some number on that passes a test, or the bound where none does
pub record NextOf (may : ℕ → Bool) (bound from e : ℕ) : Type 0 where
  pub onward : from ≤ e
  pub in_bound : e ≤ bound
  pub passed : (k : ℕ) → from ≤ k → k < e → may k ≡ false
  pub passes : e < bound → may e ≡ true

-- the next entry from some number on, and what may open from it on
pub record NextWays (image : List ℕ) (may : ℕ → Bool) (from : ℕ) (r : Next) : Type 0 where
  pub next : NextOf may (header image).entries from r.entry
  pub ways : WaysOf image may r.ways
  pub low_is : r.ways.low ≡ r.entry
  pub high_in : r.entry ≤ r.ways.high
