-- Lists of numbers, tests on them, and two-byte numbers: the vocabulary of every definition here.
use Rattle.std.specs.Prelude.{ℕ, zero, suc, ◌+◌, ◌*◌, ◌/◌, ◌%◌, Bool, true, false, ◌&&◌, ◌||◌, not, cond, List, [], ◌∷◌, ◌++◌, map, length, get_or, take, drop, leb, eqb}

-- 0, 1, .. n - 1
abbrev pub below : ℕ → List ℕ
below zero = []
below (suc n) = below n ++ (n ∷ [])

-- the empty list where the test fails
abbrev pub given : {A : Type 0} → Bool → List A → List A
given true l = l
given false l = []

module _ {A : Type 0} where
  abbrev pub every : (A → Bool) → List A → Bool
  every f [] = true
  every f (x ∷ xs) = f x && every f xs

  abbrev pub any : (A → Bool) → List A → Bool
  any f [] = false
  any f (x ∷ xs) = f x || any f xs

  abbrev pub count : (A → Bool) → List A → ℕ
  count f [] = 0
  count f (x ∷ xs) = cond (f x) 1 0 + count f xs

  -- the first that passes, or the number given
  abbrev pub first : (A → Bool) → List A → A → A
  first f [] d = d
  first f (x ∷ xs) d = cond (f x) x (first f xs d)

  -- none stands twice
  abbrev pub distinct : (A → A → Bool) → List A → Bool
  distinct same [] = true
  distinct same (x ∷ xs) = not (any (same x) xs) && distinct same xs

  -- part k of a list that is cut into parts of w
  abbrev pub part : ℕ → List A → ℕ → List A
  part w l k = take w (drop (w * k) l)

  abbrev pub joined : List (List A) → List A
  joined [] = []
  joined (l ∷ ls) = l ++ joined ls

module _ {A B : Type 0} where
  abbrev pub flat_map : (A → List B) → List A → List B
  flat_map f [] = []
  flat_map f (x ∷ xs) = f x ++ flat_map f xs

abbrev pub sum : List ℕ → ℕ
sum [] = 0
sum (x ∷ xs) = x + sum xs

abbrev pub same_list : List ℕ → List ℕ → Bool
same_list [] [] = true
same_list [] (y ∷ ys) = false
same_list (x ∷ xs) [] = false
same_list (x ∷ xs) (y ∷ ys) = eqb x y && same_list xs ys

-- low to high, both included
abbrev pub within : ℕ → ℕ → ℕ → Bool
within low high n = leb low n && leb n high

abbrev pub is_zero : ℕ → Bool
is_zero n = eqb n 0

-- byte i
abbrev pub byte : List ℕ → ℕ → ℕ
byte bs i = get_or bs i 0

-- binary digit i of a number is 1
abbrev pub bit : ℕ → ℕ → Bool
bit n zero = eqb (n % 2) 1
bit n (suc i) = bit (n / 2) i

-- a list over the front of another that has room for it; where it has not, the other as it was
abbrev pub where_room : List ℕ → List ℕ → List ℕ
where_room l out = cond (leb (length l) (length out)) (l ++ drop (length l) out) out

-- "a two-byte number is unsigned, low byte first": the one that begins at byte i
abbrev pub number : List ℕ → ℕ → ℕ
number bs i = byte bs i + 256 * byte bs (i + 1)

-- its two bytes
abbrev pub number_bytes : ℕ → List ℕ
number_bytes n = n % 256 ∷ n / 256 % 256 ∷ []

-- bytes as two-byte numbers, one after the other; an odd byte at the end is none
abbrev pub numbers : List ℕ → List ℕ
numbers bs = map (λ i. number bs (2 * i)) (below (length bs / 2))
