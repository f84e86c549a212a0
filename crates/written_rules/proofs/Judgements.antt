-- The judgement by the first test that fails, and by the rules where none does.
use Prim.Native.Nat.{ℕ}
use mathlib.Core.Bool.{Bool, true, false}
use mathlib.Core.Path.{◌≡◌, refl, sym, ap}
use mathlib.Core.List.{List, ◌++◌}
use Rattle.model.specs.Blocks.{header}
use Rattle.model.specs.GrammarOf.{grammar_of}
use Rattle.model.specs.Refusals.{Verdict, accepted, refused, image_tests, image_verdict, pairing_tests}
use Rattle.model.specs.Beside.{Judgement, judgement_after}
use Rattle.model.proofs.Tests.{tests_refused, tests_accepted}
use Rattle.judge.proofs.PairingLaws.{pairing_right}
use Rattle.rule_texts.specs.Text.{is_text, pairs_known, obeys_text}
use Rattle.written_rules.specs.Judged.{text_tests, rules_tests, rules_judged, judged_rules}

module _ (image pairing text : List ℕ) where
  -- tests 13, 19, 20 as the definitions have them
  abbrev pub test13 : Bool
  test13 = pairing_right (header image).pairs pairing

  abbrev pub test20 : Bool
  test20 = pairs_known (header image).pairs text

  pub refused_13 : test13 ≡ false → Judgement.refused 13 ≡ judged_rules image pairing text
  unfolding judged_rules pairing_tests text_tests
  refused_13 e = rw e refl

  pub refused_19 : test13 ≡ true → is_text text ≡ false → Judgement.refused 19 ≡ judged_rules image pairing text
  unfolding judged_rules pairing_tests text_tests
  refused_19 a e = rw (a, e) refl

  pub refused_20 : test13 ≡ true → is_text text ≡ true → test20 ≡ false → Judgement.refused 20 ≡ judged_rules image pairing text
  unfolding judged_rules pairing_tests text_tests
  refused_20 a b e = rw (a, b, e) refl

  pub decided : test13 ≡ true → is_text text ≡ true → test20 ≡ true → (b : Bool) → obeys_text (grammar_of image).lexical text pairing ≡ b → judgement_after accepted b ≡ judged_rules image pairing text
  unfolding judged_rules pairing_tests text_tests
  decided p q r b e = rw (p, q, r, e) refl

  -- the image check comes first
  pub image_refused : (k : ℕ) → image_verdict image ≡ refused k → Judgement.refused k ≡ rules_judged image pairing text
  unfolding rules_judged rules_tests image_verdict
  image_refused k e =
      sym (ap (λ (v : Verdict). judgement_after v (obeys_text (grammar_of image).lexical text pairing)) (tests_refused (image_tests image) (pairing_tests image pairing ++ text_tests image text) k e))

  pub image_accepted : image_verdict image ≡ accepted → judged_rules image pairing text ≡ rules_judged image pairing text
  unfolding rules_judged rules_tests image_verdict judged_rules
  image_accepted e =
      sym (ap (λ (v : Verdict). judgement_after v (obeys_text (grammar_of image).lexical text pairing)) (tests_accepted (image_tests image) (pairing_tests image pairing ++ text_tests image text) e))
