-- Tests joined by &&, taken apart and put together; tests of numbers and lists.
use Prim.Native.Nat.{ℕ, ◌<◌, ◌≤◌}
use mathlib.Core.Bool.{Bool, true, false, ◌&&◌, ◌||◌, not, and_comm}
use mathlib.Core.Path.{◌≡◌, refl, ap, subst}
use mathlib.Core.List.{List, [], ◌∷◌}
use lib.Dec.{T, leb, eqb, eqb→eq, eqb_refl, leb→le, le→leb}
use borrow.Author.Tests.{lt-leb}
use Rattle.model.specs.Lists.{same_list, within}

pub and_out : (a b : Bool) → T (a && b) → T a × T b
and_out true b h = (tt, h)
and_out false b h = absurd h

pub and_in : (a b : Bool) → T a → T b → T (a && b)
and_in true b s t = t
and_in false b s t = absurd s

pub and_assoc : (a b c : Bool) → (a && (b && c)) ≡ (a && b && c)
and_assoc true b c = refl
and_assoc false b c = refl

pub and_exchange : (a b c d : Bool) → (a && b && (c && d)) ≡ (a && c && (b && d))
and_exchange false b c d = refl
and_exchange true true c d = refl
and_exchange true false true d = refl
and_exchange true false false d = refl

pub and_swap : (a b c : Bool) → (a && b && c) ≡ (a && c && b)
and_swap false b c = refl
and_swap true b c = and_comm b c

pub left_or : (a b : Bool) → T a → T (a || b)
left_or true b t = tt
left_or false b t = absurd t

pub right_or : (a b : Bool) → T b → T (a || b)
right_or true b t = tt
right_or false b t = t

module _ (a b c : Bool) where
  pub out3 : T (a && b && c) → T a × T b × T c
  out3 h = let t = and_out (a && b) c h in let u = and_out a b t.0 in (u.0, u.1, t.1)

  pub in3 : T a → T b → T c → T (a && b && c)
  in3 x y z = and_in (a && b) c (and_in a b x y) z

module _ (a b c d : Bool) where
  pub out4 : T (a && b && c && d) → T a × T b × T c × T d
  out4 h = let t = and_out (a && b && c) d h in let u = out3 a b c t.0 in (u.0, u.1, u.2, t.1)

  pub in4 : T a → T b → T c → T d → T (a && b && c && d)
  in4 x y z u = and_in (a && b && c) d (in3 a b c x y z) u

module _ (a b c d e : Bool) where
  pub out5 : T (a && b && c && d && e) → T a × T b × T c × T d × T e
  out5 h = let t = and_out (a && b && c && d) e h in let u = out4 a b c d t.0 in (u.0, u.1, u.2, u.3, t.1)

  pub in5 : T a → T b → T c → T d → T e → T (a && b && c && d && e)
  in5 x y z u v = and_in (a && b && c && d) e (in4 a b c d x y z u) v

module _ (a b c d e f g h : Bool) where
  pub out8 : T (a && b && c && d && e && f && g && h) → T a × T b × T c × T d × T e × T f × T g × T h
  out8 x = let t = out4 (a && b && c && d && e) f g h x in let u = out5 a b c d e t.0 in (u.0, u.1, u.2, u.3, u.4, t.1, t.2, t.3)

  pub in8 : T a → T b → T c → T d → T e → T f → T g → T h → T (a && b && c && d && e && f && g && h)
  in8 s t u v w x y z = in4 (a && b && c && d && e) f g h (in5 a b c d e s t u v w) x y z

-- a && b, by one of them
module _ (a b : Bool) where
  pub left_true : a ≡ true → (a && b) ≡ b
  left_true e = ap (λ (x : Bool). x && b) e

  pub left_false : a ≡ false → (a && b) ≡ false
  left_false e = ap (λ (x : Bool). x && b) e

pub right_true : (a b : Bool) → b ≡ true → (a && b) ≡ a
right_true true b e = e
right_true false b e = refl

pub right_false : (a b : Bool) → b ≡ false → (a && b) ≡ false
right_false true b e = e
right_false false b e = refl

pub not_out : (b : Bool) → T (not b) → b ≡ false
not_out true t = absurd t
not_out false t = refl

pub true_of : (b : Bool) → T b → b ≡ true
true_of true t = refl
true_of false t = absurd t

pub false_of : (b : Bool) → (T b → ⊥) → b ≡ false
false_of true f = absurd (f tt)
false_of false f = refl

pub of_true : (b : Bool) → b ≡ true → T b
of_true b e = rw e tt

pub not_both : (b : Bool) → T b → T (not b) → ⊥
not_both true s t = t
not_both false s t = s

pub eq→eqb : (m n : ℕ) → m ≡ n → T (eqb m n)
eq→eqb m n e = subst (λ (k : ℕ). T (eqb m k)) e (eqb_refl m)

pub within_out : (low high n : ℕ) → T (within low high n) → (low ≤ n) × (n ≤ high)
within_out low high n t = let u = and_out (leb low n) (leb n high) t in (leb→le low n u.0, leb→le n high u.1)

pub within_in : (low high n : ℕ) → low ≤ n → n ≤ high → T (within low high n)
within_in low high n h k = and_in (leb low n) (leb n high) (le→leb low n h) (le→leb n high k)

-- a range's test by the order
module _ (low high n : ℕ) where
  pub within_below : n < low → within low high n ≡ false
  within_below h = left_false (leb low n) (leb n high) (lt-leb low n h)

  pub within_above : high < n → within low high n ≡ false
  within_above h = right_false (leb low n) (leb n high) (lt-leb n high h)

  pub within_true : low ≤ n → n ≤ high → within low high n ≡ true
  within_true h k = true_of (within low high n) (within_in low high n h k)

pub same_out : (xs ys : List ℕ) → T (same_list xs ys) → xs ≡ ys
same_out [] [] t = refl
same_out [] (y ∷ ys) t = absurd t
same_out (x ∷ xs) [] t = absurd t
same_out (x ∷ xs) (y ∷ ys) t =
    let u = and_out (eqb x y) (same_list xs ys) t in
    let e = eqb→eq x y u.0 in
    let f = same_out xs ys u.1 in
    cc

same_refl : (xs : List ℕ) → T (same_list xs xs)
same_refl [] = tt
same_refl (x ∷ xs) = and_in (eqb x x) (same_list xs xs) (eqb_refl x) (same_refl xs)

pub same_in : (xs ys : List ℕ) → xs ≡ ys → T (same_list xs ys)
same_in xs ys e = subst (λ (l : List ℕ). T (same_list xs l)) e (same_refl xs)
