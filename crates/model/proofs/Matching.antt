-- What a set has, and what a column matches and is counted by, in examples that are small enough to be computed with every check of the model.
use mathlib.Core.Bool.{true, false}
use mathlib.Core.Path.{◌≡◌, refl}
use mathlib.Core.List.{[], ◌∷◌, ◌++◌, map}
use lib.ListN.{replicate}
use Rattle.model.specs.Lists.{below}
use Rattle.model.specs.RuleTables.{in_set, matches_side, breadth, columns_of}
use Rattle.model.specs.Refusals.{Verdict, image_verdict}
use Rattle.model.specs.Samples.{entry_bytes, image_of}
use Rattle.model.proofs.Computed.{computed}

-- "bit b of byte j for letter 8j + b": bytes 0 and 15 alone
set_bits : map (in_set (129 ∷ (replicate 14 0 ++ (2 ∷ [])))) (0 ∷ 1 ∷ 7 ∷ 8 ∷ 119 ∷ 120 ∷ 121 ∷ 122 ∷ 128 ∷ 136 ∷ []) ≡ true ∷ false ∷ true ∷ false ∷ false ∷ false ∷ true ∷ false ∷ false ∷ false ∷ []
unfolding computed
set_bits = refl

-- sides that name a set match what it has; where it is missing, nothing
set_matches : (map (matches_side ((2 ∷ []) ∷ (12 ∷ []) ∷ []) 129) (below 5) ≡ false ∷ false ∷ true ∷ true ∷ false ∷ []) × (map (matches_side ((255 ∷ []) ∷ []) 129) (below 5) ≡ replicate 5 false)
    × (map (λ s. matches_side ((255 ∷ []) ∷ []) s 2) (2 ∷ 3 ∷ 128 ∷ 158 ∷ 159 ∷ 254 ∷ 255 ∷ []) ≡ true ∷ false ∷ true ∷ false ∷ false ∷ false ∷ true ∷ [])
unfolding computed
set_matches = (refl, refl, refl)

-- "narrowness still counts pairs", and never members: of 2:2 and 5:5 a column {2 3 4}:any matches one
members_uncounted : breadth ((28 ∷ []) ∷ []) (record { lexical = 2; surface = 2 } ∷ record { lexical = 5; surface = 5 } ∷ []) (record { lexical = 128; surface = 255 }) ≡ 1
unfolding computed
members_uncounted = refl

-- "the P pairs and the boundary pair together": columns t:t and any:any where t:t alone is listed; the boundary makes any:any the wider
boundary_counted : let image = image_of (35 ∷ 116 ∷ []) (2 ∷ 2 ∷ []) (2 ∷ 1 ∷ 2 ∷ 2 ∷ 255 ∷ 255 ∷ 1 ∷ 1 ∷ 1 ∷ []) ((entry_bytes (2 ∷ []) 255 0 ∷ []) ∷ []) in (columns_of image 0 ≡ 0 ∷ 1 ∷ []) × (image_verdict image ≡ Verdict.accepted)
unfolding computed
boundary_counted = (refl, refl)
