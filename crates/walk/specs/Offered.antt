-- What a search that may give up has offered of the readings that it was to offer.
use Rattle.std.specs.Prelude.{ℕ, ◌+◌, ◌<◌, ◌⊎◌, ◌≡◌, List, ◌++◌}
use Rattle.model.specs.Readings.{Reading}
use Rattle.rows.specs.Offering.{offer_all}
use Rattle.rows.specs.Fill.{put}

-- it gave up, which it does only with a table of so few places that no node is remembered: it tells so by a count that no offering comes to, and has
-- offered a beginning of the list
pub record GaveUp (capacity : ℕ) (s : List ℕ × ℕ) (l : List Reading) (s' : List ℕ × ℕ) (places : ℕ) : Type 0 where
  pub few : places < 40
  pub told : s'.1 ≡ capacity + 2
  pub first : List Reading
  pub rest : List Reading
  pub parts : l ≡ first ++ rest
  pub bytes : s'.0 ≡ (offer_all (put capacity) s first).0

-- the whole list, or it gave up
abbrev pub Offered : ℕ → List ℕ × ℕ → List Reading → List ℕ × ℕ → ℕ → Type 0
Offered capacity s l s' places = (s' ≡ offer_all (put capacity) s l) ⊎ GaveUp capacity s l s' places
