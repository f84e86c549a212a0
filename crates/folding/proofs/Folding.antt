-- Laws of folding: each is one test, computed over the whole table, and what follows for every code point.
use Prim.Native.Nat.{ℕ, zero, suc, ◌+◌, ◌%◌, ◌<◌, ◌≤◌}
use native.Mathlib.Omega.{arith}
use mathlib.Core.Bool.{Bool, true, false, ◌&&◌, ◌||◌, not, cond}
use mathlib.Core.Path.{◌≡◌, refl, sym, ap, ◌∙◌}
use mathlib.Core.List.{List, [], ◌∷◌, map}
use lib.ListN.{length, get_or, get_or-map}
use lib.Dec.{leb, ltb, eqb}
use borrow.Author.Tests.{ltb-true, ltb-false, lt-ltb, le-ltb}
use Rattle.folding.specs.Folding.{lower_case, fold}

-- the table has a place for each code point from 0 to 383
pub length_lower_case : length lower_case ≡ 384
unfolding lower_case
length_lower_case = refl

module _ (c : ℕ) where
  pub fold_below : c < 384 → fold c ≡ get_or lower_case c 0
  unfolding fold
  fold_below h = rw (lt-ltb c 384 h)

  -- "for code points 0 to 383": above that nothing is folded
  pub fold_above : 384 ≤ c → fold c ≡ c
  unfolding fold
  fold_above h = rw (le-ltb c 384 h)

-- folding changes nothing that stands in the table
table_folded : map fold lower_case ≡ lower_case
unfolding fold lower_case
table_folded = refl

entry_folded : (c : ℕ) → fold (get_or lower_case c 0) ≡ get_or lower_case c 0
unfolding fold lower_case
entry_folded c = sym (get_or-map fold lower_case c 0) ∙ ap (λ (l : List ℕ). get_or l c 0) table_folded

-- "Folding a folded code point changes it no further, and this is shown for the table at large."
pub fold_twice : (c : ℕ) → fold (fold c) ≡ fold c
fold_twice c = go (ltb c 384) refl
  where
    go : (b : Bool) → ltb c 384 ≡ b → fold (fold c) ≡ fold c
    go true e = rw (fold_below c (ltb-true c 384 e)) (entry_folded c)
    go false e = ap fold (fold_above c (ltb-false c 384 e))

-- what is folded stays below 384
table_small : map (λ x. x % 384) lower_case ≡ lower_case
unfolding lower_case
table_small = refl

pub entry_small : (c : ℕ) → get_or lower_case c 0 < 384
entry_small c =
    let e = get_or-map (λ x. x % 384) lower_case c 0 ∙ refl in
    let f = ap (λ (l : List ℕ). get_or l c 0) table_small in
    omega (arith, e, f)

-- The table as people know it. ASCII and Latin-1: a capital's lower case is 32 places on; × (215) is none. Latin Extended-A: the next place, where capitals are even
-- up to 310, odd from 313 to 327, even from 330 to 374, odd from 377 on. Two go elsewhere: İ (304) to i, and Ÿ (376) to ÿ (255).
among : ℕ → ℕ → ℕ → Bool
among low high c = leb low c && leb c high

is_even : ℕ → Bool
is_even c = eqb (c % 2) 0

lower : ℕ → ℕ
lower c =
    cond (among 65 90 c || among 192 214 c || among 216 222 c) (c + 32)
    (cond (eqb c 304) 105
    (cond (eqb c 376) 255
    (cond (is_even c && (among 256 310 c || among 330 374 c)) (c + 1)
    (cond (not (is_even c) && (among 313 327 c || among 377 381 c)) (c + 1) c))))

from : ℕ → ℕ → List ℕ
from c zero = []
from c (suc n) = c ∷ from (suc c) n

by_ranges : map lower (from 0 384) ≡ lower_case
unfolding lower_case among is_even lower from
by_ranges = refl

-- İ and Ÿ; µ, ß, ı, ŉ and ſ have no lower case of their own; Σ (931) is above the table
edges : map fold (304 ∷ 376 ∷ 181 ∷ 223 ∷ 305 ∷ 329 ∷ 383 ∷ 384 ∷ 931 ∷ []) ≡ 105 ∷ 255 ∷ 181 ∷ 223 ∷ 305 ∷ 329 ∷ 383 ∷ 384 ∷ 931 ∷ []
unfolding fold lower_case
edges = refl
