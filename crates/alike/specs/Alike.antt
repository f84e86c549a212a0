-- Two grammars that agree on all that a reading can be made of: below their counts, and whatever they say beyond them.
use Rattle.std.specs.Prelude.{ℕ, ◌<◌, ◌≤◌, ◌≡◌}
use Rattle.model.specs.Grammar.{Grammar}

pub record Alike (g h : Grammar) : Type 0 where
  pub pairs : g.pairs ≡ h.pairs
  pub lexical : (p : ℕ) → p < g.pairs → g.lexical p ≡ h.lexical p
  pub surface : (p : ℕ) → p < g.pairs → g.surface p ≡ h.surface p
  pub spoken : (p : ℕ) → p < g.pairs → g.spoken p ≡ h.spoken p
  pub rules : g.rules ≡ h.rules
  -- the boundary pair has the number of pairs
  pub next : (r : ℕ) → r < g.rules → (s p : ℕ) → p ≤ g.pairs → g.next r s p ≡ h.next r s p
  pub final : (r : ℕ) → r < g.rules → (s : ℕ) → g.final r s ≡ h.final r s
  pub entries : g.entries ≡ h.entries
  pub form : (e : ℕ) → e < g.entries → g.form e ≡ h.form e
  pub begins : (e : ℕ) → e < g.entries → g.begins e ≡ h.begins e
  pub follows : (e f : ℕ) → e < g.entries → f < g.entries → g.follows e f ≡ h.follows e f
  pub ends : (e : ℕ) → e < g.entries → g.ends e ≡ h.ends e
