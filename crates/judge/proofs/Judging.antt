-- A reading by what is left to test once path and pairing have passed tests 11 to 13: the two levels, and the rules.
use Prim.Native.Nat.{ℕ, ◌+◌, ◌%◌, ◌<◌, ◌≤◌}
use native.Mathlib.Omega.{arith}
use mathlib.Core.Bool.{Bool, true, false, ◌&&◌}
use mathlib.Core.Path.{◌≡◌, refl, ap, ◌∙◌}
use mathlib.Core.List.{List, map}
use lib.ListN.{length}
use lib.Dec.{T, leb, ltb, eqb}
use borrow.Author.Tests.{le-leb, lt-leb}
use Rattle.model.specs.Lists.{every, same_list}
use Rattle.model.specs.Blocks.{header}
use Rattle.model.specs.Lexicon.{path_length}
use Rattle.model.specs.GrammarOf.{grammar_of}
use Rattle.model.specs.Readings.{nulls, spelled, few_nulls, word_length, pairing_length, passes, is_linked, is_path, is_reading}
use Rattle.model.specs.Query.{entry_numbers}
use Rattle.model.proofs.Booleans.{and_out, and_in, true_of}
use Rattle.model.proofs.Booleans.{within_below, within_above, within_true}
use Rattle.model.proofs.Spoken.{two_level, image_two_level}
use Rattle.rules.specs.Paths.{forms_of}
use Rattle.judge.specs.Reading.{Listed, levels_right, judged_reading}
use Rattle.rules.proofs.PathLaws.{length_right}
use Rattle.judge.proofs.PairingLaws.{pairing_right, length_spelled}

-- one level by its number of nulls
module _ (side : ℕ → ℕ) (ps : List ℕ) (n : ℕ) (count : n ≡ nulls (map side ps)) where
  pub nulls_are : leb n 8 ≡ few_nulls side ps
  nulls_are = ap (λ (m : ℕ). leb m 8) count

  pub nulls_many : 8 < n → few_nulls side ps ≡ false
  nulls_many h = lt-leb (nulls (map side ps)) 8 (omega arith)

  pub nulls_few : n ≤ 8 → few_nulls side ps ≡ true
  nulls_few h = le-leb (nulls (map side ps)) 8 (omega arith)

  module _ (letters : ℕ) (rest : letters + n ≡ length ps) where
    spelled_are : length (spelled side ps) ≡ letters
    spelled_are = omega (arith, length_spelled side ps)

    pub word_empty : letters < 1 → word_length (spelled side ps) ≡ false
    word_empty h = within_below 1 32 (length (spelled side ps)) (omega (arith, spelled_are))

    pub word_long : 32 < letters → word_length (spelled side ps) ≡ false
    word_long h = within_above 1 32 (length (spelled side ps)) (omega (arith, spelled_are))

    pub word_right : 1 ≤ letters → letters ≤ 32 → word_length (spelled side ps) ≡ true
    word_right h k = within_true 1 32 (length (spelled side ps)) (omega (arith, spelled_are)) (omega (arith, spelled_are))

-- what the two levels ask, test by test
module _ (image path pairing : List ℕ) where
  abbrev forms : Bool
  forms = same_list (spelled (grammar_of image).lexical pairing) (forms_of image path)

  abbrev lexical : Bool
  lexical = few_nulls (grammar_of image).lexical pairing

  abbrev spells : Bool
  spells = word_length (spelled (grammar_of image).surface pairing)

  abbrev surface : Bool
  surface = few_nulls (grammar_of image).surface pairing

  pub fails_forms : forms ≡ false → levels_right image path pairing ≡ false
  fails_forms a = go forms a
    where
      go : (x : Bool) → x ≡ false → (x && lexical && spells && surface) ≡ false
      go x a = rw a refl

  pub fails_lexical : forms ≡ true → lexical ≡ false → levels_right image path pairing ≡ false
  fails_lexical a b = go forms lexical a b
    where
      go : (x y : Bool) → x ≡ true → y ≡ false → (x && y && spells && surface) ≡ false
      go x y a b = rw (a, b) refl

  pub fails_word : forms ≡ true → lexical ≡ true → spells ≡ false → levels_right image path pairing ≡ false
  fails_word a b c = go forms lexical spells a b c
    where
      go : (x y z : Bool) → x ≡ true → y ≡ true → z ≡ false → (x && y && z && surface) ≡ false
      go x y z a b c = rw (a, b, c) refl

  pub surface_decides : forms ≡ true → lexical ≡ true → spells ≡ true → levels_right image path pairing ≡ surface
  surface_decides a b c = go forms lexical spells a b c
    where
      go : (x y z : Bool) → x ≡ true → y ≡ true → z ≡ true → (x && y && z && surface) ≡ surface
      go x y z a b c = rw (a, b, c) refl

-- path and pairing have passed their tests
module _ (image path pairing : List ℕ) (t11 : T (length_right path)) (t12 : T (is_linked (grammar_of image) (entry_numbers path))) (t13 : T (pairing_right (header image).pairs pairing)) where
  pub is_listed : Listed image pairing
  is_listed = (and_out (pairing_length pairing) (every (λ p. ltb p (header image).pairs) pairing) t13).1

  is_path_lem : is_path (grammar_of image) (entry_numbers path) ≡ true
  unfolding is_path
  is_path_lem = true_of (path_length (entry_numbers path) && is_linked (grammar_of image) (entry_numbers path)) (and_in (path_length (entry_numbers path)) (is_linked (grammar_of image) (entry_numbers path)) (and_out (eqb (length path % 2) 0) (path_length (entry_numbers path)) t11).1 t12)

  pairs_listed : every (λ p. ltb p (grammar_of image).pairs) pairing ≡ true
  unfolding grammar_of
  pairs_listed = true_of (every (λ p. ltb p (header image).pairs) pairing) is_listed

  pub reading_is : is_reading (grammar_of image) (judged_reading path pairing) ≡ (levels_right image path pairing && passes (grammar_of image) pairing)
  reading_is =
      let long = true_of (pairing_length pairing) (and_out (pairing_length pairing) (every (λ p. ltb p (header image).pairs) pairing) t13).0 in
      two_level (grammar_of image) (image_two_level image) (judged_reading path pairing) ∙ rw (is_path_lem, long, pairs_listed) refl
