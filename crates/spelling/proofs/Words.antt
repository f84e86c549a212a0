-- A word's letters: which code point each has, and the word in the room that it is found in and in the output.
use Prim.Native.Nat.{ℕ, zero, suc, ◌*◌, ◌-◌, ◌/◌, ◌<◌, ◌≤◌}
use native.Mathlib.Omega.{arith}
use mathlib.Core.Path.{◌≡◌, refl, ap, ◌∙◌}
use mathlib.Core.List.{List, [], ◌∷◌, ◌++◌, map}
use lib.ListN.{length, get_or, take, length-take, length-append}
use lib.Seq.{take_at}
use Rattle.model.specs.Lists.{number, numbers}
use Rattle.model.specs.Spelling.{letter_spelled, word_spelled}
use Rattle.model.proofs.Lists.{length_numbers, number_in}
use Rattle.model.proofs.Spelling.{length_spelled}

get_d_map : (f : ℕ → ℕ) (xs : List ℕ) (i : ℕ) → i < length xs → get_or (map f xs) i 0 ≡ f (get_or xs i 0)
get_d_map f [] i h = absurd (omega arith)
get_d_map f (x ∷ xs) zero h = refl
get_d_map f (x ∷ xs) (suc i) h = get_d_map f xs i (omega arith)

-- the letter at place i is that of code point i
module _ (image points : List ℕ) where
  pub spelled_length : length (word_spelled image points) ≡ length points / 2
  spelled_length = length_spelled image points ∙ length_numbers points

  pub spelled_at : (i : ℕ) → i < length points / 2 → get_or (word_spelled image points) i 0 ≡ letter_spelled image (number points (2 * i))
  unfolding word_spelled
  spelled_at i h = get_d_map (letter_spelled image) (numbers points) i (omega (arith, length_numbers points)) ∙ ap (letter_spelled image) (number_in points i h)

-- room for a word in 32 bytes, and the word out of it
pub room_for : (room : List ℕ) (n : ℕ) → n ≤ length room → length (take (n - 0) room) ≡ n
room_for room n h = omega (arith, length-take (n - 0) room)

pub word_within : (word rest : List ℕ) (n : ℕ) → length word ≡ n → n ≤ length (word ++ rest)
word_within word rest n e = omega (arith, length-append word rest)

pub word_back : (word rest : List ℕ) (n : ℕ) → length word ≡ n → take (n - 0) (word ++ rest) ≡ word
word_back word rest n e = let whole : n - 0 ≡ n = omega arith in rw whole (take_at word rest n e)
