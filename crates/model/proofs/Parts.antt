-- Lists made of parts of one width: blocks of an image, rows of a buffer.
use Prim.Native.Nat.{ℕ, zero, suc, ◌+◌, ◌*◌, ◌<◌, ◌≤◌}
use native.Mathlib.Nat.{mul-suc, mul-zero, add_comm}
use mathlib.Core.Path.{◌≡◌, refl, sym, ap, ap₂, ◌∙◌}
use mathlib.Core.List.{List, [], ◌∷◌, ◌++◌, map, append_assoc, append-nil, Memᴰ}
use lib.ListN.{length, get_or, take, drop, length-append}
use lib.Seq.{take_at, drop-append-add, take-add}
use native.Mathlib.Omega.{arith}
use Rattle.model.specs.Lists.{below, flat_map, joined, part}
use Rattle.model.proofs.Lists.{flat_map_below}

module _ {A B : Type 0} where
  pub flat_map_joined : (f : A → List B) (xs : List A) → flat_map f xs ≡ joined (map f xs)
  flat_map_joined f [] = refl
  flat_map_joined f (x ∷ xs) = ap (λ (l : List B). f x ++ l) (flat_map_joined f xs)

  pub flat_map_same : (f h : A → List B) (xs : List A) → ((x : A) → Memᴰ x xs → f x ≡ h x) → flat_map f xs ≡ flat_map h xs
  flat_map_same f h [] e = refl
  flat_map_same f h (x ∷ xs) e = ap₂ (λ (k l : List B). k ++ l) (e x (Memᴰ.head refl)) (flat_map_same f h xs (λ y m. e y (Memᴰ.tail m)))

module _ (w : ℕ) where
  module _ {A B : Type 0} (f : A → List B) where
    -- each list that is joined is w long
    abbrev pub Wide : List A → Type 0
    Wide xs = (x : A) → Memᴰ x xs → length (f x) ≡ w

    pub length_parts : (xs : List A) → Wide xs → length (flat_map f xs) ≡ w * length xs
    length_parts [] wide = sym (mul-zero w)
    length_parts (x ∷ xs) wide = length-append (f x) (flat_map f xs) ∙ ap₂ (λ (a b : ℕ). a + b) (wide x (Memᴰ.head refl)) (length_parts xs (λ y m. wide y (Memᴰ.tail m))) ∙ add_comm w (w * length xs) ∙ sym (mul-suc w (length xs))

    pub part_at : (xs : List A) → Wide xs → (rest : List B) (k : ℕ) (d : A) → k < length xs → part w (flat_map f xs ++ rest) k ≡ f (get_or xs k d)
    part_at [] wide rest k d h = absurd (omega arith)
    part_at (x ∷ xs) wide rest zero d h =
        ap (λ (n : ℕ). take w (drop n (f x ++ flat_map f xs ++ rest))) (mul-zero w)
        ∙ ap (take w) (append_assoc (f x) (flat_map f xs) rest)
        ∙ take_at (f x) (flat_map f xs ++ rest) w (wide x (Memᴰ.head refl))
    part_at (x ∷ xs) wide rest (suc k) d h =
        ap₂ (λ (n : ℕ) (l : List B). take w (drop n l)) (mul-suc w k ∙ add_comm (w * k) w ∙ ap (λ (n : ℕ). n + w * k) (sym (wide x (Memᴰ.head refl)))) (append_assoc (f x) (flat_map f xs) rest)
        ∙ ap (take w) (drop-append-add (f x) (flat_map f xs ++ rest) (w * k))
        ∙ part_at xs (λ y m. wide y (Memᴰ.tail m)) rest k d (omega arith)

  -- the first n parts, joined
  pub parts_join : {B : Type 0} (l : List B) (n : ℕ) → take (w * n) l ≡ flat_map (part w l) (below n)
  parts_join l zero = ap (λ (n : ℕ). take n l) (mul-zero w)
  parts_join {B} l (suc n) = ap (λ (m : ℕ). take m l) (mul-suc w n) ∙ take-add (w * n) w l ∙ ap (λ (k : List B). k ++ part w l n) (parts_join l n) ∙ sym (flat_map_below (part w l) n)
