-- A test of each byte of a part, as the library says it and as the definitions do.
use Prim.Native.Nat.{ℕ, ◌+◌, ◌-◌, ◌≤◌}
use native.Mathlib.Omega.{arith}
use mathlib.Core.Bool.{Bool, ◌&&◌}
use mathlib.Core.List.{List, [], ◌∷◌}
use mathlib.Core.Path.{◌≡◌, refl, sym, ap, ◌∙◌}
use lib.ListN.{take, drop}
use Rattle.std.specs.List.{list_all}
use Rattle.model.specs.Lists.{every}
use Rattle.model.proofs.Lists.{drop_take}

list_all-every : (f : ℕ → Bool) (xs : List ℕ) → list_all f xs ≡ every f xs
list_all-every f [] = refl
list_all-every f (x ∷ xs) = ap (λ (b : Bool). f x && b) (list_all-every f xs)

-- the part by its start and its length, and by its start and its end
pub list_all-part : (f : ℕ → Bool) (from end : ℕ) (l : List ℕ) → from ≤ end → list_all f (take (end - from) (drop from l)) ≡ every f (drop from (take end l))
list_all-part f from end l h =
    let whole : from + (end - from) ≡ end = omega arith in
    list_all-every f (take (end - from) (drop from l))
    ∙ ap (every f) (sym (drop_take from (end - from) l) ∙ ap (λ (n : ℕ). drop from (take n l)) whole)
