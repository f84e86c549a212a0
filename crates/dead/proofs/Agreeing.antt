-- Two lists whose first numbers are the same, and how a loop comes from a few to all.
use Prim.Native.Nat.{ℕ, ◌+◌, ◌<◌, ◌≤◌}
use native.Mathlib.Decide.{ℕ_discrete}
use native.Mathlib.Omega.{arith}
use mathlib.Core.Path.{◌≡◌, sym, ap, ◌∙◌}
use mathlib.Core.List.{List, ◌++◌}
use lib.ListN.{length, get_or, take, set, get_or-append}
use lib.Seq.{length-take-le, get_or-take, get_or-set_same, get_or-set_other, ext_get_or}

-- the first n are the same
abbrev pub Agree : List ℕ → List ℕ → ℕ → Type 0
Agree l m n = (k : ℕ) → k < n → get_or l k 0 ≡ get_or m k 0

pub agree_front : (p l m : List ℕ) → Agree (p ++ l) (p ++ m) (length p)
agree_front p l m k h = get_or-append p l 0 k h ∙ sym (get_or-append p m 0 k h)

-- one more, stored
pub agree_set : (l m : List ℕ) (i v : ℕ) → i < length l → v ≡ get_or m i 0 → Agree l m i → Agree (set l i v) m (i + 1)
agree_set l m i v inside e all k h = go (ℕ_discrete k i)
  where
    go : Dec (k ≡ i) → get_or (set l i v) k 0 ≡ get_or m k 0
    go (yes at) = ap (λ (j : ℕ). get_or (set l i v) j 0) at ∙ get_or-set_same l i v 0 inside ∙ e ∙ ap (λ (j : ℕ). get_or m j 0) (sym at)
    go (no at) = get_or-set_other l i k v 0 at ∙ all k (omega arith)

-- all of one list, and as many of the other
pub agree_all : (l m : List ℕ) (n : ℕ) → length l ≡ n → n ≤ length m → Agree l m n → l ≡ take n m
agree_all l m n long fits all = ext_get_or 0 l (take n m) (long ∙ sym (length-take-le n m fits)) (λ i h. all i (omega arith) ∙ sym (get_or-take n m i 0 (omega arith)))
