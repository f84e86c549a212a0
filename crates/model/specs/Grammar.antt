-- A grammar, whatever form its image has: all that readings and listings are made of. Beside the lexical level it has two lines, the surface and the spoken one; in
-- a grammar of two levels they are the same.
use Rattle.std.specs.Prelude.{ℕ, Bool, ◌≡◌, List, T}

pub record Grammar : Type 0 where
  pub pairs : ℕ
  pub lexical : ℕ → ℕ  -- the sides of a pair, 0 the null
  pub surface : ℕ → ℕ
  pub spoken : ℕ → ℕ
  pub rules : ℕ
  pub next : ℕ → ℕ → ℕ → ℕ  -- of a rule, from a state, by a pair or by the boundary pair, whose number is the number of pairs
  pub final : ℕ → ℕ → Bool
  pub entries : ℕ
  pub form : ℕ → List ℕ
  pub begins : ℕ → Bool  -- the entry may begin a path
  pub follows : ℕ → ℕ → Bool  -- the second may come after the first
  pub ends : ℕ → Bool  -- a path may end with the entry

-- a grammar of two levels: what is spoken is what is written
abbrev pub TwoLevel : Grammar → Type 0
TwoLevel g = g.spoken ≡ g.surface

-- no entry both ends a path and goes on
abbrev pub OneWay : Grammar → Type 0
OneWay g = (e f : ℕ) → T (g.ends e) → T (g.follows e f) → ⊥
