-- A code point looked for among those of the letters, one after the other.
use Prim.Native.Nat.{ℕ, zero, suc, ◌+◌, ◌<◌, ◌≤◌}
use Rattle.std.specs.Prelude.{Option, Some, cond}
use Rattle.std.specs.Option.{MatchOption, unwrap_or}
use native.Mathlib.Numerals.{add-one}
use native.Mathlib.Omega.{arith}
use mathlib.Core.Path.{◌≡◌, refl, sym, ap, ◌∙◌, subst}
use mathlib.Core.List.{List}
use lib.ListN.{length, get_or, drop, drop_of_length-le}
use borrow.Author.Tests.{eq-eqb, ne_eqb}
use Rattle.model.specs.Spelling.{letter_from, letter_of, letter_spelled}
use Rattle.model.specs.Lists.{is_zero}
use Rattle.folding.specs.Folding.{fold}
use Rattle.model.proofs.Rest.{drop_step}
use Rattle.spelling.specs.Answers.{if_letter}

-- what is left of the letters, from letter i + 1 on, decides
module _ (cs : List ℕ) (c i : ℕ) where
  pub letter_found : i < length cs → get_or cs i 0 ≡ c → letter_from (i + 1) c (drop i cs) ≡ i + 1
  letter_found h e = rw (drop_step cs 0 i h, eq-eqb (get_or cs i 0) c e)

  pub letter_on : i < length cs → (get_or cs i 0 ≡ c → ⊥) → letter_from (i + 1) c (drop i cs) ≡ letter_from (i + 1 + 1) c (drop (i + 1) cs)
  letter_on h f = rw (drop_step cs 0 i h, ne_eqb (get_or cs i 0) c f) (ap (λ (a : ℕ). letter_from a c (drop (i + 1) cs)) (sym (add-one (i + 1))))

  pub letter_missed : length cs ≤ i → letter_from (i + 1) c (drop i cs) ≡ 0
  letter_missed h = rw (drop_of_length-le cs h)

-- a letter of its own is kept, and what has none is folded
module _ (image : List ℕ) (c : ℕ) where
  pub own_or_folded : {own answer : Option ℕ} → own ≡ if_letter (letter_of image c) → MatchOption own (answer ≡ if_letter (letter_of image (fold c))) (λ a. answer ≡ Some a)
      → answer ≡ if_letter (letter_spelled image c)
  unfolding letter_spelled
  own_or_folded {own} {answer} e m = go (letter_of image c) (subst (λ (o : Option ℕ). MatchOption o (answer ≡ if_letter (letter_of image (fold c))) (λ a. answer ≡ Some a)) e m)
    where
      go : (n : ℕ) → MatchOption (if_letter n) (answer ≡ if_letter (letter_of image (fold c))) (λ a. answer ≡ Some a) → answer ≡ if_letter (cond (is_zero n) (letter_of image (fold c)) n)
      go zero m = m
      go (suc a) m = rw (ne_eqb (suc a) 0 (λ z. omega arith)) m

-- the letter that is written where none is found
pub letter_or_zero : (n : ℕ) {o : Option ℕ} {letter : ℕ} → o ≡ if_letter n → letter ≡ unwrap_or o 0 → letter ≡ n
letter_or_zero n e f = f ∙ ap (λ (o : Option ℕ). unwrap_or o 0) e ∙ go n
  where
    go : (n : ℕ) → unwrap_or (if_letter n) 0 ≡ n
    go zero = refl
    go (suc a) = refl
