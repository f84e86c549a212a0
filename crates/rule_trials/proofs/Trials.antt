-- Pairings of t:c and of luz judged by written rules, computed from the definitions: the verdicts of their rule tables; and the refusals in their order.
use Prim.Native.Nat.{ℕ}
use mathlib.Core.Bool.{Bool, true, false}
use mathlib.Core.Path.{◌≡◌, refl}
use mathlib.Core.List.{List, [], ◌∷◌, map}
use Rattle.model.specs.GrammarOf.{grammar_of}
use Rattle.model.specs.Readings.{passes}
use Rattle.model.specs.Beside.{Judgement, holds, fails}
use Rattle.model.specs.Samples.{luz_image, tc_image, slip_image}
use Rattle.model.proofs.Computed.{computed}
use Rattle.contexts.specs.Reader.{read_context}
use Rattle.contexts.specs.Operators.{obeys}
use Rattle.rule_texts.specs.Line.{read_rule}
use Rattle.rule_texts.specs.Text.{is_text, pairs_known, obeys_text}
use Rattle.rule_texts.proofs.Trials.{bytes}
use Rattle.written_rules.specs.Judged.{text_tests, rules_tests, rules_judged}

-- what a table replies of a pairing, in the judge's words
abbrev told : Bool → Judgement
told true = holds
told false = fails

-- t:c <=> _ i:i; pairs t:c 0, t:t 1, i:i 2: "t:c i:i passes, t:t i:i fails, t:c alone fails, t:t alone passes"
abbrev tc : List (List ℕ)
tc = (0 ∷ 2 ∷ []) ∷ (1 ∷ 2 ∷ []) ∷ (0 ∷ []) ∷ (1 ∷ []) ∷ []

tc_judged : map (λ p. rules_judged tc_image p (bytes "<=> 000 _002")) tc ≡ holds ∷ fails ∷ fails ∷ holds ∷ []
unfolding computed rules_judged rules_tests text_tests is_text pairs_known obeys_text obeys read_rule read_context bytes
tc_judged = refl

tc_tables : map (λ p. told (passes (grammar_of tc_image) p)) tc ≡ holds ∷ fails ∷ fails ∷ holds ∷ []
unfolding computed
tc_tables = refl

-- Z:c <=> _ +:0 e:e; pairs +:0 0, e:e 2, l:l 3, s:s 4, u:u 5, Z:c 6, Z:z 7: luces, luzes, luz, luc, lue
abbrev luz_pairings : List (List ℕ)
luz_pairings = (3 ∷ 5 ∷ 6 ∷ 0 ∷ 2 ∷ 4 ∷ []) ∷ (3 ∷ 5 ∷ 7 ∷ 0 ∷ 2 ∷ 4 ∷ []) ∷ (3 ∷ 5 ∷ 7 ∷ []) ∷ (3 ∷ 5 ∷ 6 ∷ []) ∷ (3 ∷ 5 ∷ 2 ∷ []) ∷ []

luz_judged : map (λ p. rules_judged luz_image p (bytes "<=> 006 _000002\n")) luz_pairings ≡ holds ∷ fails ∷ holds ∷ fails ∷ holds ∷ []
unfolding computed rules_judged rules_tests text_tests is_text pairs_known obeys_text obeys read_rule read_context bytes
luz_judged = refl

luz_tables : map (λ p. told (passes (grammar_of luz_image) p)) luz_pairings ≡ holds ∷ fails ∷ holds ∷ fails ∷ holds ∷ []
unfolding computed
luz_tables = refl

-- 14 before 13, 13 before 19, 19 of a later line before 20 of an earlier one, 20; of no rule, holds
refusals : (rules_judged slip_image (8 ∷ []) (bytes "x") ≡ Judgement.refused 14)
    × (rules_judged luz_image (8 ∷ []) (bytes "x") ≡ Judgement.refused 13)
    × (rules_judged luz_image (3 ∷ []) (bytes "=> 999 _\nx") ≡ Judgement.refused 19)
    × (rules_judged luz_image (3 ∷ []) (bytes "=> 003 008_") ≡ Judgement.refused 20)
    × (rules_judged luz_image (3 ∷ []) (bytes "=> 255 _") ≡ Judgement.refused 20)
    × (rules_judged luz_image (3 ∷ []) (bytes "=> 003 255_") ≡ holds)
    × (rules_judged luz_image (3 ∷ []) [] ≡ holds)
unfolding computed rules_judged rules_tests text_tests is_text pairs_known obeys_text obeys read_rule read_context bytes
refusals = (refl, refl, refl, refl, refl, refl, refl)
