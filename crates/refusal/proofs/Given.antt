-- What `?` gives back of a refusal: the same one.
use mathlib.Core.Path.{◌≡◌, ap}
use Rattle.std.specs.Result.{IsErrAnd}
use Rattle.std.specs.Prelude.{Result, Ok, Err}

module _ {A E : Type 0} where
  pub same_refusal : (r : Result A E) (e : E) → IsErrAnd r (λ y. y ≡ e) → r ≡ Err e
  same_refusal (Ok _) e p = elim p [ ]
  same_refusal (Err y) e p = ap (λ (z : E). Err z) p
