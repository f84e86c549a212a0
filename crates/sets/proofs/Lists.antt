-- Laws of tests over what a loop has passed: the beginning of a list, an element more.
use Prim.Native.Nat.{ℕ, zero, suc, ◌+◌, ◌<◌, ◌≤◌}
use native.Mathlib.Nat.{zero-add, add-zero, add_assoc}
use native.Mathlib.Omega.{arith}
use mathlib.Core.Bool.{Bool, true, false, ◌&&◌, not, cond}
use mathlib.Core.Path.{◌≡◌, refl, sym, ap, ◌∙◌}
use mathlib.Core.List.{List, [], ◌∷◌, ◌++◌}
use lib.ListN.{length, get_or, take}
use lib.Dec.{T}
use borrow.Author.Tests.{not-true, not-false}
use Rattle.std.specs.List.{list_all}
use Rattle.model.specs.Lists.{every, count}
use Rattle.model.proofs.Booleans.{and_out}
use Rattle.model.proofs.Rest.{take_more}

-- what a callee's answer says, where it is negated
pub fails : {b : Bool} (r : Bool) → r ≡ b → not r ≡ true → b ≡ false
fails r e k = sym e ∙ not-true r k

pub passes : {b : Bool} (r : Bool) → r ≡ b → not r ≡ false → b ≡ true
passes r e k = sym e ∙ not-false r k

-- every and std's word for it are one
pub every-list_all : {A : Type 0} (f : A → Bool) (xs : List A) → every f xs ≡ list_all f xs
every-list_all f [] = refl
every-list_all f (x ∷ xs) = ap (λ (b : Bool). f x && b) (every-list_all f xs)

-- an element of a list whose every element passes, and past its end what passes as well
module _ {A : Type 0} (f : A → Bool) (d : A) where
  pub every_get_d_any : (l : List A) (i : ℕ) → T (f d) → T (every f l) → T (f (get_or l i d))
  every_get_d_any [] i h t = h
  every_get_d_any (x ∷ l) zero h t = (and_out (f x) (every f l) t).0
  every_get_d_any (x ∷ l) (suc i) h t = every_get_d_any l i h (and_out (f x) (every f l) t).1

-- an element more of a list's beginning
module _ {A : Type 0} (f : A → Bool) where
  count_append : (xs ys : List A) → count f (xs ++ ys) ≡ count f xs + count f ys
  count_append [] ys = sym (zero-add (count f ys))
  count_append (x ∷ xs) ys = ap (λ (n : ℕ). cond (f x) 1 0 + n) (count_append xs ys) ∙ sym (add_assoc (cond (f x) 1 0) (count f xs) (count f ys))

  pub count_length : (l : List A) → count f l ≤ length l
  count_length [] = omega arith
  count_length (x ∷ l) = go (f x) (count_length l)
    where
      go : (b : Bool) → count f l ≤ length l → cond b 1 0 + count f l ≤ suc (length l)
      go true h = omega arith
      go false h = omega arith

  module _ (l : List A) (p : ℕ) (d : A) (h : p < length l) where
    count_next : count f (take (p + 1) l) ≡ count f (take p l) + (cond (f (get_or l p d)) 1 0 + 0)
    count_next = ap (count f) (take_more l p d h) ∙ count_append (take p l) (get_or l p d ∷ [])

    pub count_more : f (get_or l p d) ≡ true → count f (take (p + 1) l) ≡ count f (take p l) + 1
    count_more e = count_next ∙ ap (λ (b : Bool). count f (take p l) + (cond b 1 0 + 0)) e

    pub count_same : f (get_or l p d) ≡ false → count f (take (p + 1) l) ≡ count f (take p l)
    count_same e = count_next ∙ ap (λ (b : Bool). count f (take p l) + (cond b 1 0 + 0)) e ∙ add-zero (count f (take p l))
