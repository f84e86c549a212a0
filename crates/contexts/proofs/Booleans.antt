-- Tests joined by ||, taken apart.
use mathlib.Core.Bool.{Bool, true, false, ◌||◌}
use mathlib.Core.Logic.{◌⊎◌, inl, inr}
use lib.Dec.{T}

pub or_out : (a b : Bool) → T (a || b) → T a ⊎ T b
or_out true b h = inl tt
or_out false b h = inr h
