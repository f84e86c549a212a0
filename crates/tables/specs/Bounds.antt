-- What test 6 lets a table's counts be.
use Rattle.std.specs.Prelude.{ℕ, Bool, ◌&&◌}
use Rattle.model.specs.Lists.{within}

-- C and S
abbrev pub right_counts : ℕ → ℕ → Bool
right_counts columns states = within 1 16 columns && within 1 24 states
