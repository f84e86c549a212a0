-- The judgement by the first test that fails, and by the reading where none does.
use Prim.Native.Nat.{ℕ}
use mathlib.Core.Bool.{Bool, true, false}
use mathlib.Core.Path.{◌≡◌, refl, sym, ap}
use Rattle.std.specs.Prelude.{Ok}
use mathlib.Core.List.{List, ◌++◌}
use Rattle.model.specs.Blocks.{header}
use Rattle.model.specs.GrammarOf.{grammar_of}
use Rattle.model.specs.Readings.{is_linked, is_reading}
use Rattle.model.specs.Query.{entry_numbers}
use Rattle.model.specs.Refusals.{Verdict, accepted, refused, image_tests, image_verdict, path_tests, pairing_tests, judge_tests}
use Rattle.model.specs.Beside.{Judgement, judgement_after, judged}
use Rattle.model.proofs.Tests.{tests_refused, tests_accepted}
use Rattle.rules.proofs.PathLaws.{length_right}
use Rattle.judge.specs.Reading.{judged_reading}
use Rattle.judge.specs.Answers.{judgement_of, judged_accepted}
use Rattle.judge.proofs.PairingLaws.{pairing_right}

-- what is told where no test fails
pub told : (b : Bool) → judgement_of (Ok b) ≡ judgement_after accepted b
told true = refl
told false = refl

module _ (image path pairing : List ℕ) where
  -- tests 11, 12, 13 as the definitions have them
  abbrev pub test11 : Bool
  test11 = length_right path

  abbrev pub test12 : Bool
  test12 = is_linked (grammar_of image) (entry_numbers path)

  abbrev pub test13 : ℕ → Bool
  test13 pairs = pairing_right pairs pairing

  pub refused_11 : test11 ≡ false → Judgement.refused 11 ≡ judged_accepted image path pairing
  unfolding judged_accepted path_tests pairing_tests
  refused_11 e = rw e refl

  pub refused_12 : test11 ≡ true → test12 ≡ false → Judgement.refused 12 ≡ judged_accepted image path pairing
  unfolding judged_accepted path_tests pairing_tests
  refused_12 a e = rw (a, e) refl

  pub refused_13 : test11 ≡ true → test12 ≡ true → test13 (header image).pairs ≡ false → Judgement.refused 13 ≡ judged_accepted image path pairing
  unfolding judged_accepted path_tests pairing_tests
  refused_13 a b e = rw (a, b, e) refl

  pub decided : test11 ≡ true → test12 ≡ true → test13 (header image).pairs ≡ true → (b : Bool) → is_reading (grammar_of image) (judged_reading path pairing) ≡ b → judgement_after accepted b ≡ judged_accepted image path pairing
  unfolding judged_accepted path_tests pairing_tests
  decided p q r b e = rw (p, q, r, e) refl

  -- the image check comes first
  pub image_refused : (k : ℕ) → image_verdict image ≡ refused k → Judgement.refused k ≡ judged image path pairing
  unfolding judged judge_tests image_verdict
  image_refused k e =
      let here = is_reading (grammar_of image) (judged_reading path pairing) in
      sym (ap (λ (v : Verdict). judgement_after v here) (tests_refused (image_tests image) (path_tests image path ++ pairing_tests image pairing) k e))

  pub image_accepted : image_verdict image ≡ accepted → judged_accepted image path pairing ≡ judged image path pairing
  unfolding judged judge_tests image_verdict judged_accepted
  image_accepted e =
      let here = is_reading (grammar_of image) (judged_reading path pairing) in
      sym (ap (λ (v : Verdict). judgement_after v here) (tests_accepted (image_tests image) (path_tests image path ++ pairing_tests image pairing) e))
