-- Entries that open where one may, by a list that leaves out only what finds nothing.
use Rattle.std.specs.Prelude.{ℕ, ◌<◌, true, ◌≡◌, List, length, get_or}
use Rattle.model.specs.Lists.{below, flat_map}
use Rattle.model.specs.Blocks.{header}
use Rattle.model.specs.Query.{Query}
use Rattle.rows.specs.declared.Trail.{Trail}
use Rattle.listing.specs.declared.place.Place.{Place}
use Rattle.listing.specs.Opening.{may_enter}
use Rattle.listing.specs.Search.{entry_one}

pub record Listed (image : List ℕ) (q : Query) (place : Place) (trail : Trail) (xs : List ℕ) : Type 0 where
  pub may : (k : ℕ) → k < length xs → (get_or xs k 0 < (header image).entries) × (may_enter image q.entries place.last trail.entries (get_or xs k 0) ≡ true)
  pub all : flat_map (entry_one image q place trail) (below (header image).entries) ≡ flat_map (λ k. entry_one image q place trail (get_or xs k 0)) (below (length xs))
