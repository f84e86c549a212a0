-- A machine that reads numbers, and the walk that lists what it accepts. It knows nothing of grammars.
use Rattle.std.specs.Prelude.{ℕ, zero, suc, ◌<◌, Bool, List, [], ◌∷◌, ◌++◌, map, T}
use Rattle.model.specs.Lists.{below, given, flat_map}

pub record Machine (S : Type 0) : Type 0 where
  pub count : S → ℕ  -- the numbers below it are tried
  pub may : S → ℕ → Bool
  pub go : S → ℕ → S
  pub ends : S → Bool

module _ {S : Type 0} (m : Machine S) where
  -- the list leads from s to where it may end
  abbrev pub Accepts : S → List ℕ → Type 0
  Accepts s [] = T (m.ends s)
  Accepts s (n ∷ l) = (n < m.count s) × T (m.may s n) × Accepts (m.go s n) l

  -- what s accepts in at most k numbers
  unfoldable pub walk : ℕ → S → List (List ℕ)
  walk zero s = given (m.ends s) ([] ∷ [])
  walk (suc k) s = given (m.ends s) ([] ∷ []) ++ flat_map (λ n. let r = walk k (m.go s n) in given (m.may s n) (map (λ l. n ∷ l) r)) (below (m.count s))
