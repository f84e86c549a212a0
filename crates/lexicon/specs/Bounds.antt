-- What a byte of an entry may be, by the length of the form.
use Rattle.std.specs.Prelude.{ℕ, ◌+◌, ◌*◌, ◌<◌, Bool, cond, List, ◌≡◌, ltb, eqb}
use Rattle.model.specs.Lists.{within, byte}

-- what may stand at a place, as its sign in the table: a letter, anything, nothing
abbrev pub letter_sign : ℕ
letter_sign = 97

abbrev pub anything_sign : ℕ
anything_sign = 42

abbrev pub nothing_sign : ℕ
nothing_sign = 46

-- of an entry whose form has n letters, byte i after the length: "12 letter bytes (2-L, the rest 0)", and after them anything
abbrev pub place_of : ℕ → ℕ → ℕ
place_of n i = cond (ltb i n) letter_sign (cond (ltb i 12) nothing_sign anything_sign)

-- a bound by what it is for a letter and for anything
abbrev pub bound_of : ℕ → ℕ → ℕ → ℕ
bound_of letter anything place = cond (eqb place letter_sign) letter (cond (eqb place anything_sign) anything 0)

-- a row of 16 bounds for each n from 0 to 12
pub record Bounds (letter anything : ℕ) (bounds : List ℕ) : Type 0 where
  pub bound : (n i : ℕ) → n < 13 → i < 16 → byte bounds (16 * n + i) ≡ bound_of letter anything (place_of n i)

-- byte i from `at` on is within bound i of a row
abbrev pub in_row : List ℕ → List ℕ → ℕ → List ℕ → ℕ → ℕ → Bool
in_row low high row image at i = within (byte low (row + i)) (byte high (row + i)) (byte image (at + i))
