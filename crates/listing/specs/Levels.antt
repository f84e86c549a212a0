-- The code's level as the model's, and the model's tests of a level by the side of one pair.
use Rattle.std.specs.Prelude.{ℕ, ◌≤◌, Bool, true, ◌&&◌, ◌≡◌, leb}
use Rattle.model.specs.Query.{Pattern}
use Rattle.model.specs.Tree as tree
use Rattle.model.specs.Tree.{allows_side, letters_and, nulls_and}
use Rattle.listing.specs.declared.level.Level.{Level}
use Rattle.listing.specs.declared.level.LexicalAfter.{LexicalAfter}

abbrev pub level_of : Level → tree.Level
level_of c = record { letters = c.letters; nulls = c.nulls }

-- level_may and level_go at a pair whose side is x
unfoldable pub level_may_by : Pattern → tree.Level → ℕ → Bool
level_may_by t c x = allows_side t c.letters x && leb (letters_and c.letters x) 32 && leb (nulls_and c.nulls x) 8

unfoldable pub level_go_by : tree.Level → ℕ → tree.Level
level_go_by c x = record { letters = letters_and c.letters x; nulls = nulls_and c.nulls x }

pub record Bounded (c : Level) : Type 0 where
  pub letters_in : c.letters ≤ 32
  pub nulls_in : c.nulls ≤ 8

-- a pair whose surface side is x may come next, and the level after it
pub record Passed (t : Pattern) (c : Level) (x : ℕ) (after : Level) : Type 0 where
  pub may : level_may_by t (level_of c) x ≡ true
  pub go : level_of after ≡ level_go_by (level_of c) x
  pub bounded : Bounded after

-- a pair whose lexical side is x makes no null too many, and where the letters left begin after it
pub record Spelled (from nulls x : ℕ) (after : LexicalAfter) : Type 0 where
  pub may : leb (nulls_and nulls x) 8 ≡ true
  pub from_is : after.from ≡ letters_and from x
  pub nulls_are : after.nulls ≡ nulls_and nulls x
  pub nulls_in : after.nulls ≤ 8
