-- Pairs that are forced, and where they lead.
use Rattle.std.specs.Prelude.{ℕ, ◌<◌, ◌≤◌, ◌≡◌, ⊤, List, [], get_or, Option, MatchOption}
use Rattle.model.specs.Blocks.{Header, header}
use Rattle.model.specs.Query.{Query}
use Rattle.rows.specs.declared.Trail.{Trail}
use Rattle.listing.specs.declared.place.Place.{Place}
use Rattle.listing.specs.Places.{Shut, Took}
use Rattle.listing.specs.Search.{found_at}
use Rattle.ahead.specs.declared.forced.Tried.{Tried}
use Rattle.ahead.specs.declared.forced.Tried.TheVariants as tried
use Rattle.ahead.specs.declared.forced.Led.{Led}
use Rattle.ahead.specs.Here.{steps_after, Underway}

-- of the first k of some pairs p alone may be taken, and the place after it
pub record Sole (image : List ℕ) (q : Query) (place : Place) (cs : List ℕ) (k p : ℕ) (next : Place) : Type 0 where
  pub at : ℕ
  pub at_in : at < k
  pub this : p ≡ get_or cs at 0
  pub is_pair : p < (header image).pairs
  pub took : Took image q place p next
  pub others : (i : ℕ) → i < k → (i ≡ at → ⊥) → Shut image q place (get_or cs i 0)

-- of the first k of some pairs none may be taken, or one alone, or more
abbrev pub TriedOf : List ℕ → Query → Place → List ℕ → ℕ → Tried → Type 0
TriedOf image q place cs k tried.Nothing = (i : ℕ) → i < k → Shut image q place (get_or cs i 0)
TriedOf image q place cs k (tried.One p next) = Sole image q place cs k p next
TriedOf image q place cs k tried.Several = ⊤

-- the same is found as from another place with a longer trail, from where no more steps are left
pub record ForcedTo (image index : List ℕ) (h : Header) (q : Query) (place : Place) (trail : Trail) (next : Place) (longer : Trail) : Type 0 where
  pub goes : found_at image q next longer ≡ found_at image q place trail
  pub underway : Underway image index h next longer
  pub no_more : steps_after next longer ≤ steps_after place trail

-- nothing is found, or that
abbrev pub LedTo : List ℕ → List ℕ → Header → Query → Place → Trail → Option Led → Type 0
LedTo image index h q place trail led = MatchOption led (found_at image q place trail ≡ []) (λ l. ForcedTo image index h q place trail l.place l.trail)
