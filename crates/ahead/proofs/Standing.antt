-- The place where the search stands, as the model's node: whether an entry opens, the next letter, the reading that ends.
use Prim.Native.Nat.{ℕ, suc, ◌<◌, ◌≤◌}
use native.Mathlib.Omega.{arith}
use native.Mathlib.Decide.{dec_lt}
use mathlib.Core.Bool.{false}
use mathlib.Core.Path.{◌≡◌, refl, sym, ap}
use mathlib.Core.List.{List, [], ◌∷◌}
use lib.Dec.{T}
use borrow.Author.Tests.{le-leb, lt-leb}
use Rattle.model.specs.Lists.{every, within, byte}
use Rattle.model.specs.Blocks.{header}
use Rattle.model.specs.GrammarOf.{grammar_of}
use Rattle.model.specs.Query.{Query}
use Rattle.model.specs.Tree.{opens, complete}
use Rattle.model.proofs.Booleans.{and_out, within_out}
use Rattle.listing.specs.declared.place.Place.{Place}
use Rattle.listing.specs.Places.{rest_of, node_of, Standing}
use Rattle.listing.specs.Search.{head_of}
use Rattle.listing.proofs.Taking.{part_nil, part_cons}
use Rattle.ahead.specs.Here.{opens_at}

-- the first of some letters, or 0
pub head_within : (top : ℕ) (l : List ℕ) → T (every (within 2 top) l) → head_of l ≤ top
head_within top [] t = omega arith
head_within top (x ∷ l) t = (within_out 2 top x (and_out (within 2 top x) (every (within 2 top) l) t).0).1

module _ (image : List ℕ) (place : Place) (stands : Standing image place) where
  rest_none : place.to ≤ place.from → rest_of image place ≡ []
  rest_none h = part_nil image place.from place.to stands.in_image h

  rest_some : place.from < place.to → rest_of image place ≡ byte image place.from ∷ rest_of image (record { from = suc place.from; to = place.to; last = place.last; nulls = place.nulls; surface = place.surface; states = place.states })
  rest_some h = part_cons image place.from place.to stands.in_image h

  pub opens_is : (n m : ℕ) → opens (node_of image place n m) ≡ opens_at place
  unfolding node_of opens_at
  opens_is n m = go (dec_lt place.from place.to)
    where
      go : Dec (place.from < place.to) → opens (node_of image place n m) ≡ opens_at place
      go (yes h) = rw (rest_some h, lt-leb place.to place.from h) refl
      go (no h) = let k : place.to ≤ place.from = omega arith in rw (rest_none k, le-leb place.to place.from k) refl

  pub head_some : place.from < place.to → byte image place.from ≡ head_of (rest_of image place)
  head_some h = sym (ap head_of (rest_some h))

  pub head_none : place.to ≤ place.from → 0 ≡ head_of (rest_of image place)
  head_none h = sym (ap head_of (rest_none (omega arith)))

  pub head_most : head_of (rest_of image place) ≤ (header image).letters
  head_most = head_within (header image).letters (rest_of image place) stands.letters_right

  -- nothing ends while a letter is left
  pub not_ended : (q : Query) (n m : ℕ) → place.from < place.to → complete (grammar_of image) q (node_of image place n m) ≡ false
  unfolding complete node_of
  not_ended q n m h = rw (rest_some h) refl
