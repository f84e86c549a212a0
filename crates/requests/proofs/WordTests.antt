-- The tests of a word, by the first that fails.
use Prim.Native.Nat.{ℕ, ◌<◌, ◌≤◌}
use native.Mathlib.Omega.{arith}
use mathlib.Core.Bool.{true, false}
use mathlib.Core.Path.{◌≡◌, refl, sym, ◌∙◌}
use mathlib.Core.List.{List}
use lib.ListN.{length, take, drop}
use lib.Seq.{take_all}
use borrow.Author.Tests.{lt-leb, le-leb}
use Rattle.model.specs.Lists.{every, within}
use Rattle.model.specs.Blocks.{header}
use Rattle.model.specs.Refusals.{accepted, refused, first_failing, word_tests}

module _ (image word : List ℕ) where
  pub too_short : length word < 1 → refused 9 ≡ first_failing (word_tests image word)
  unfolding word_tests
  too_short h = rw (lt-leb 1 (length word) h) refl

  pub too_long : 1 ≤ length word → 32 < length word → refused 9 ≡ first_failing (word_tests image word)
  unfolding word_tests
  too_long h k = rw (le-leb 1 (length word) h, lt-leb (length word) 32 k) refl

  module _ (h : 1 ≤ length word) (k : length word ≤ 32) (letters : ℕ) (e : letters ≡ (header image).letters) where
    whole : every (within 2 letters) (drop 0 (take (length word) word)) ≡ every (within 2 (header image).letters) word
    whole = rw (take_all (length word) word (omega arith), e) refl

    pub bad_letter : every (within 2 letters) (drop 0 (take (length word) word)) ≡ false → refused 10 ≡ first_failing (word_tests image word)
    unfolding word_tests
    bad_letter f = rw (le-leb 1 (length word) h, le-leb (length word) 32 k, sym whole ∙ f) refl

    pub right_word : every (within 2 letters) (drop 0 (take (length word) word)) ≡ true → accepted ≡ first_failing (word_tests image word)
    unfolding word_tests
    right_word f = rw (le-leb 1 (length word) h, le-leb (length word) 32 k, sym whole ∙ f) refl
