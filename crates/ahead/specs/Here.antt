-- What the search asks of the place where it stands, and what it may rely on there.
use Rattle.std.specs.Prelude.{ℕ, Bool, ◌&&◌, not, ◌≡◌, List, leb, eqb}
use Rattle.model.specs.Blocks.{Header}
use Rattle.image.specs.Accepted.{Accepted}
use Rattle.image.specs.Index.{index_of}
use Rattle.rows.specs.declared.Trail.{Trail}
use Rattle.rows.specs.Trail.{Short}
use Rattle.listing.specs.declared.place.Place.{Place}
use Rattle.listing.specs.Gather.{steps_left}
use Rattle.listing.specs.Places.{ended, Standing}

-- "the next entry opens as soon as the last letter of the one before is paired"; the path may end there instead
unfoldable pub opens_at : Place → Bool
opens_at place = leb place.to place.from && not (eqb place.last ended)

-- how many steps are left at a place, after a trail
abbrev pub steps_after : Place → Trail → ℕ
steps_after p t = steps_left (eqb p.last ended) t.entries t.pairs

pub record Underway (image index : List ℕ) (h : Header) (place : Place) (trail : Trail) : Type 0 where
  pub accepted : Accepted image h
  pub indexed : index ≡ index_of image
  pub stands : Standing image place
  pub short : Short trail
