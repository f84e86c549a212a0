-- Readings offered one after another, for any step: none, one, those of two lists, and all that come after a full state.
use mathlib.Core.Path.{◌≡◌, refl}
use mathlib.Core.List.{List, [], ◌∷◌, ◌++◌}
use Rattle.model.specs.Readings.{Reading}
use Rattle.rows.specs.Offering.{offer_all, Keeps}

module _ {S : Type 0} (step : S → Reading → S) where
  pub offer_none : (s : S) → offer_all step s [] ≡ s
  unfolding offer_all
  offer_none s = refl

  pub offer_one : (s : S) (r : Reading) → offer_all step s (r ∷ []) ≡ step s r
  unfolding offer_all
  offer_one s r = refl

  pub offer_append : (s : S) (l m : List Reading) → offer_all step s (l ++ m) ≡ offer_all step (offer_all step s l) m
  unfolding offer_all
  offer_append s [] m = refl
  offer_append s (r ∷ l) m = offer_append (step s r) l m

  -- a full state stays
  pub offer_full : {Full : S → Type 0} → Keeps Full step → (s : S) (l : List Reading) → Full s → offer_all step s l ≡ s
  unfolding offer_all
  offer_full k s [] f = refl
  offer_full k s (r ∷ l) f = rw (k.alone s r f) (offer_full k s l f)
