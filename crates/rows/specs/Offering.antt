-- Readings offered one after another to a state: what a search does with those it finds, whatever the step is.
use Rattle.std.specs.Prelude.{◌≡◌, List, [], ◌∷◌}
use Rattle.model.specs.Readings.{Reading}

-- each reading of a list takes the state one step on
unfoldable pub offer_all : {S : Type 0} → (S → Reading → S) → S → List Reading → S
offer_all step s [] = s
offer_all step s (r ∷ l) = offer_all step (step s r) l

-- what a step must keep: a full state is left alone, so a search may stop there
pub record Keeps {S : Type 0} (Full : S → Type 0) (step : S → Reading → S) : Type 0 where
  pub alone : (s : S) (r : Reading) → Full s → step s r ≡ s
