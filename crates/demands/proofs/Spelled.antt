-- What the spelling call hands over: the word's letters, which analysis on the same image takes.
use Prim.Native.Nat.{ℕ}
use mathlib.Core.Path.{◌≡◌, ap, ◌∙◌}
use mathlib.Core.List.{List}
use lib.ListN.{length, take, drop}
use lib.Seq.{take_at}
use Rattle.model.specs.Query.{analysis}
use Rattle.model.specs.Spelling.{word_spelled}
use Rattle.model.specs.Refusals.{Verdict, accepted, first_failing, image_tests, image_verdict, word_tests, own_tests, request_tests}
use Rattle.model.specs.Beside.{Spelling, written_after, spelling_reply, after_spelling}
use Rattle.model.proofs.Tests.{tests_append}
use Rattle.spelling.proofs.Replies as spelling
use Rattle.spelling.proofs.Replies.{spelled_passes, spelled_when}

module _ (image points before after : List ℕ) (n : ℕ) (replied : spelling_reply image points (length before) ≡ Spelling.letters n) (leaves : after ≡ after_spelling image points before) where
  handed_word : take n after ≡ word_spelled image points
  unfolding after_spelling
  handed_word =
      let w = word_spelled image points in
      let t = spelled_when image points (length before) n replied in
      ap (take n) (leaves ∙ ap (λ (v : Verdict). written_after v w before) t.0) ∙ take_at w (drop (length w) before) n t.1

  pub word_handed : first_failing (word_tests image (take n after)) ≡ accepted
  word_handed = ap (λ (w : List ℕ). first_failing (word_tests image w)) handed_word ∙ spelling.word_taken image points (length before) n replied

  pub analysis_taken : first_failing (request_tests image (analysis (take n after))) ≡ accepted
  unfolding request_tests own_tests image_verdict
  analysis_taken = (tests_append (image_tests image) (word_tests image (take n after))).1 ((spelled_passes image points (length before) (spelled_when image points (length before) n replied).0).0, word_handed)
