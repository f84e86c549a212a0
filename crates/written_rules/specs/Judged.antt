-- Document 02, (h), the judging call: "replies holds or fails, whether a pairing obeys a text of 0 to 32 rules".
use Rattle.std.specs.Prelude.{ℕ, Bool, List, [], ◌∷◌, ◌++◌}
use Rattle.model.specs.Blocks.{header}
use Rattle.model.specs.GrammarOf.{grammar_of}
use Rattle.model.specs.Refusals.{first_failing, image_tests, pairing_tests}
use Rattle.model.specs.Beside.{Judgement, judgement_after}
use Rattle.rule_texts.specs.Text.{is_text, pairs_known, obeys_text}

-- 19 and 20, 19 over the whole text first
unfoldable pub text_tests : List ℕ → List ℕ → List (ℕ × Bool)
text_tests image text = (19, is_text text) ∷ (20, pairs_known (header image).pairs text) ∷ []

module _ (image pairing text : List ℕ) where
  -- they "come after 13"
  unfoldable pub rules_tests : List (ℕ × Bool)
  rules_tests = image_tests image ++ (pairing_tests image pairing ++ text_tests image text)

  -- "It replies holds exactly when each rule's operator, in the meaning above, is kept at every place of the pairing."
  unfoldable pub rules_judged : Judgement
  rules_judged = judgement_after (first_failing rules_tests) (obeys_text (grammar_of image).lexical text pairing)

  -- the same once the image is accepted
  unfoldable pub judged_rules : Judgement
  judged_rules = judgement_after (first_failing (pairing_tests image pairing ++ text_tests image text)) (obeys_text (grammar_of image).lexical text pairing)
