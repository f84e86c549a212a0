-- A pair that alone may be taken finds all that is found, and where none may be taken nothing is.
use Prim.Native.Nat.{ℕ, zero, suc, ◌+◌, ◌<◌, ◌≤◌}
use native.Mathlib.Omega.{arith}
use native.Mathlib.Decide.{dec_lt, ℕ_discrete}
use mathlib.Core.Bool.{Bool}
use mathlib.Core.Path.{◌≡◌, refl, sym, ap, ap₂, ◌∙◌, subst}
use mathlib.Core.List.{List, [], ◌∷◌, ◌++◌, append-nil}
use lib.ListN.{length, get_or}
use Rattle.model.specs.Lists.{below, given, flat_map}
use Rattle.model.specs.Blocks.{Header, header}
use Rattle.model.specs.Query.{Query}
use Rattle.model.proofs.Lists.{flat_map_below}
use Rattle.image.specs.Index.{candidates}
use Rattle.rows.specs.declared.Trail.{Trail}
use Rattle.rows.specs.Trail.{reading_of, with_pair, Holds}
use Rattle.listing.specs.declared.place.Place.{Place}
use Rattle.listing.specs.Places.{rest_of, Shut, Took}
use Rattle.listing.specs.Search.{head_of, found_at}
use Rattle.listing.proofs.Loops.{below_low}
use Rattle.listing.proofs.Searching as found
use Rattle.ahead.specs.Here.{steps_after, Underway}
use Rattle.ahead.specs.declared.forced.Tried.{Tried}
use Rattle.ahead.specs.declared.forced.Tried.TheVariants as tried
use Rattle.ahead.specs.Forced.{Sole, TriedOf}
use Rattle.ahead.proofs.Candidates.{Candidate}
use Rattle.ahead.proofs.Standing.{not_ended, head_most}
use Rattle.ahead.proofs.Heads.{Pairing, candidate_one, settled_left, letter_in, pair_last, pair_found, pair_underway, pair_less, pair_turn}

before_or_here : {k i : ℕ} (P : ℕ → Type 0) → (i < k → P i) → P k → i < k + 1 → P i
before_or_here {k} {i} P a b h = go (dec_lt i k)
  where
    go : Dec (i < k) → P i
    go (yes l) = a l
    go (no l) = let e : k ≡ i = omega arith in subst P e b

-- one candidate after the other is tried
module _ (image : List ℕ) (q : Query) (place : Place) (cs : List ℕ) where
  pub tried_first : TriedOf image q place cs 0 tried.Nothing
  tried_first i h = absurd (omega arith)

  pub tried_shut : (k : ℕ) (t : Tried) → TriedOf image q place cs k t → Shut image q place (get_or cs k 0) → TriedOf image q place cs (k + 1) t
  tried_shut k tried.Nothing none s = λ i h. before_or_here (λ i. Shut image q place (get_or cs i 0)) (none i) s h
  tried_shut k (tried.One p next) sole s = record {
    at = sole.at;
    at_in = omega (arith, sole.at_in);
    this = sole.this;
    is_pair = sole.is_pair;
    took = sole.took;
    others = λ i h d. before_or_here (λ i. Shut image q place (get_or cs i 0)) (λ l. sole.others i l d) s h;
  }
  tried_shut k tried.Several t s = tt

  pub tried_took : (k : ℕ) {p : ℕ} {next : Place} → TriedOf image q place cs k tried.Nothing → p ≡ get_or cs k 0 → p < (header image).pairs → Took image q place p next
      → TriedOf image q place cs (k + 1) (tried.One p next)
  tried_took k none e inside took = record { at = k; at_in = omega arith; this = e; is_pair = inside; took = took; others = λ i h d. none i (omega arith) }

-- of many numbers one finds something
below_one : {B : Type 0} (f : ℕ → List B) (m j : ℕ) → j < m → ((i : ℕ) → i < m → (i ≡ j → ⊥) → f i ≡ []) → flat_map f (below m) ≡ f j
below_one f zero j h e = absurd (omega arith)
below_one {B} f (suc m) j h e = flat_map_below f m ∙ go (ℕ_discrete j m) (below_one f m j)
  where
    go : Dec (j ≡ m) → (j < m → ((i : ℕ) → i < m → (i ≡ j → ⊥) → f i ≡ []) → flat_map f (below m) ≡ f j) → flat_map f (below m) ++ f m ≡ f j
    go (yes s) rec = ap₂ (λ (k l : List B). k ++ l) (below_low f m m (λ x l. e x (omega arith) (λ z. omega arith)) (omega arith)) (ap f (sym s))
    go (no s) rec = ap₂ (λ (k l : List B). k ++ l) (rec (omega arith) (λ i l d. e i (omega arith) d)) (e m (omega arith) (λ z. s (sym z))) ∙ append-nil (f j)

module _ {image index : List ℕ} {h : Header} {place : Place} {trail : Trail} {a : ℕ} (o : Pairing image index h place trail a) (left : place.from < place.to) (q : Query) where
  -- nothing ends while a letter is left
  by_candidates : found_at image q place trail ≡ flat_map (candidate_one image q place trail a) (below (length (candidates image a)))
  by_candidates =
      pair_found o q
      ∙ ap (λ (b : Bool). given b (reading_of trail ∷ []) ++ flat_map (candidate_one image q place trail a) (below (length (candidates image a))))
      (not_ended image place o.underway.stands q trail.entries trail.pairs left)

  shut_none : (i : ℕ) → Shut image q place (get_or (candidates image a) i 0) → candidate_one image q place trail a i ≡ []
  shut_none i s = found.pair_skip image q place trail o.spare (get_or (candidates image a) i 0) (s trail.entries trail.pairs o.spare)

  pub tried_over : TriedOf image q place (candidates image a) (length (candidates image a)) tried.Nothing → found_at image q place trail ≡ []
  tried_over none = by_candidates ∙ below_low (candidate_one image q place trail a) (length (candidates image a)) (length (candidates image a)) (λ i l. shut_none i (none i l)) (omega arith)

  module _ {p : ℕ} {next : Place} (sole : Sole image q place (candidates image a) (length (candidates image a)) p next) {longer : Trail}
      (holds : Holds longer (with_pair (reading_of trail) p) trail.entries (trail.pairs + 1)) where
    this : Candidate image a sole.at p
    this = record { inside = sole.at_in; this = sole.this }

    pub tried_on : found_at image q next longer ≡ found_at image q place trail
    tried_on =
        pair_turn o this sole.took holds
        ∙ sym (by_candidates ∙ below_one (candidate_one image q place trail a) (length (candidates image a)) sole.at sole.at_in (λ i l d. shut_none i (sole.others i l d)))

    pub tried_underway : Underway image index h next longer
    tried_underway = pair_underway o this sole.took holds

    pub tried_less : steps_after place trail ≡ suc (steps_after next longer)
    tried_less = pair_less o this sole.took holds

-- where a letter is left
module _ {image index : List ℕ} {h : Header} {place : Place} {trail : Trail} (underway : Underway image index h place trail) (left : place.from < place.to) where
  pub left_pairing : trail.pairs < 40 → Pairing image index h place trail (head_of (rest_of image place))
  left_pairing spare = record {
    underway = underway;
    shut = (settled_left underway left).shut;
    spare = spare;
    letter = refl;
    in_letters = letter_in underway (head_most image place underway.stands);
  }

  -- with no pair to spare nothing is found
  pub full_over : (q : Query) → 40 ≤ trail.pairs → found_at image q place trail ≡ []
  full_over q full =
      pair_last underway q (settled_left underway left).shut full
      ∙ ap (λ (b : Bool). given b (reading_of trail ∷ [])) (not_ended image place underway.stands q trail.entries trail.pairs left)
