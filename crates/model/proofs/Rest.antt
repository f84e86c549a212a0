-- Loops over a list or a part of it, where what is left decides: a step on, a failure, the end; or where what is passed does: an element more.
use Prim.Native.Nat.{ℕ, suc, ◌+◌, ◌<◌, ◌≤◌}
use native.Mathlib.Nat.{le_of_lt}
use mathlib.Core.Bool.{Bool, true, false, ◌&&◌, not}
use mathlib.Core.Path.{◌≡◌, sym, ap, ◌∙◌}
use mathlib.Core.List.{List, [], ◌∷◌, ◌++◌}
use lib.ListN.{length, get_or, set, take, drop, length-take, drop_of_length-le}
use lib.Seq.{take-suc, drop-cons, set_at, append_snoc, length-take-le, get_or-take, slice, slice_empty}
use lib.Dec.{T}
use native.Mathlib.Numerals.{add-one}
use native.Mathlib.Omega.{arith}
use Rattle.model.specs.Lists.{every, any, distinct}
use Rattle.model.proofs.Booleans.{left_true, left_false, right_true, right_false}
use Rattle.model.proofs.Lists.{member_at, every_at, every_append}

module _ {A : Type 0} (xs : List A) (d : A) (i : ℕ) (inside : i < length xs) where
  -- the first of what is left, and the rest
  pub drop_step : drop i xs ≡ get_or xs i d ∷ drop (i + 1) xs
  drop_step = rw add-one (drop-cons xs i d inside)

  module _ (f : A → Bool) where
    pub every_on : f (get_or xs i d) ≡ true → every f (drop i xs) ≡ every f (drop (i + 1) xs)
    every_on e = rw (drop_step, e)

    pub every_fails : f (get_or xs i d) ≡ false → every f (drop i xs) ≡ false
    every_fails e = rw (drop_step, e)

    pub any_on : f (get_or xs i d) ≡ false → any f (drop i xs) ≡ any f (drop (i + 1) xs)
    any_on e = rw (drop_step, e)

    pub any_found : f (get_or xs i d) ≡ true → any f (drop i xs) ≡ true
    any_found e = rw (drop_step, e)

  module _ (same : A → A → Bool) where
    pub distinct_on : not (any (same (get_or xs i d)) (drop (i + 1) xs)) ≡ true → distinct same (drop i xs) ≡ distinct same (drop (i + 1) xs)
    distinct_on e = rw (drop_step, e)

    pub distinct_fails : not (any (same (get_or xs i d)) (drop (i + 1) xs)) ≡ false → distinct same (drop i xs) ≡ false
    distinct_fails e = rw (drop_step, e)

-- nothing is left
module _ {A : Type 0} (xs : List A) (i : ℕ) (past : length xs ≤ i) where
  pub every_done : (f : A → Bool) → every f (drop i xs) ≡ true
  every_done f = rw (drop_of_length-le xs past)

  pub any_done : (f : A → Bool) → any f (drop i xs) ≡ false
  any_done f = rw (drop_of_length-le xs past)

  pub distinct_done : (same : A → A → Bool) → distinct same (drop i xs) ≡ true
  distinct_done same = rw (drop_of_length-le xs past)

-- the part from `at` up to `end`
module _ {A : Type 0} (f : A → Bool) (at end : ℕ) (l : List A) (d : A) (more : at < end) (inside : end ≤ length l) where
  within : at < length (take end l)
  within = omega (arith, length-take end l)

  pub part_on : f (get_or l at d) ≡ true → every f (slice at end l) ≡ every f (slice (at + 1) end l)
  part_on e = every_on (take end l) d at within f (ap f (get_or-take end l at d more) ∙ e)

  pub part_fails : f (get_or l at d) ≡ false → every f (slice at end l) ≡ false
  part_fails e = every_fails (take end l) d at within f (ap f (get_or-take end l at d more) ∙ e)

pub part_done : {A : Type 0} (f : A → Bool) (end : ℕ) (l : List A) → every f (slice end end l) ≡ true
part_done f end l = ap (every f) (slice_empty end l)

-- the beginning of a list that a loop has passed, an element more
module _ {A : Type 0} (l : List A) (i : ℕ) (d : A) (inside : i < length l) where
  pub take_more : take (i + 1) l ≡ take i l ++ (get_or l i d ∷ [])
  take_more = ap (λ (n : ℕ). take n l) (add-one i) ∙ take-suc l i d inside

  module _ (f : A → Bool) where
    every_next : every f (take (i + 1) l) ≡ (every f (take i l) && every f (get_or l i d ∷ []))
    every_next = ap (every f) take_more ∙ every_append f (take i l) (get_or l i d ∷ [])

    pub every_take_more : f (get_or l i d) ≡ true → every f (take (i + 1) l) ≡ every f (take i l)
    every_take_more e = every_next ∙ right_true (every f (take i l)) (every f (get_or l i d ∷ [])) (left_true (f (get_or l i d)) true e)

    pub every_take_fails : f (get_or l i d) ≡ false → every f (take (i + 1) l) ≡ false
    every_take_fails e = every_next ∙ right_false (every f (take i l)) (every f (get_or l i d ∷ [])) (left_false (f (get_or l i d)) true e)

  -- written over the front of another
  pub front_more : (out : List A) → i < length out → set (take i l ++ drop i out) i (get_or l i d) ≡ take (i + 1) l ++ drop (i + 1) out
  front_more out room =
      ap (λ (m : List A). set (take i l ++ m) i (get_or l i d)) (drop-cons out i d room)
      ∙ set_at (take i l) (get_or out i d) (drop (suc i) out) (get_or l i d) i (length-take-le i l (le_of_lt inside))
      ∙ sym (append_snoc (take i l) (get_or l i d) (drop (suc i) out))
      ∙ ap (λ (m : List A). m ++ drop (suc i) out) (sym (take-suc l i d inside))
      ∙ ap (λ (n : ℕ). take n l ++ drop n out) (sym (add-one i))

-- what passes everywhere passes at each place
pub every_get_d : {A : Type 0} (f : A → Bool) (xs : List A) (i : ℕ) (d : A) → i < length xs → T (every f xs) → T (f (get_or xs i d))
every_get_d f xs i d h = every_at f xs (member_at xs i d h)
