-- The three demands, in their own order and words, over the contracts of the public calls. `Post` of a call is what its `ensures` say, for its arguments at
-- entry (a), its reply (r) and its arguments at exit (s); `now` is a lent slice's bytes.
use Prim.Native.Nat.{ℕ, ◌+◌, ◌*◌, ◌<◌}
use mathlib.Core.Bool.{Bool}
use mathlib.Core.Path.{◌≡◌, refl, sym, ap, ap₂, ◌∙◌, subst}
use mathlib.Core.Logic.{◌↔◌, ◌⊎◌, inl, inr}
use mathlib.Core.List.{List, [], ◌∷◌, ◌++◌, map, Memᴰ}
use lib.ListN.{length, take, drop}
use lib.Dec.{T}
use Rattle.model.specs.Lists.{joined}
use Rattle.model.specs.Blocks.{header, sealed_image}
use Rattle.model.specs.RuleTables.{fed, accepts}
use Rattle.model.specs.Lexicon.{entry, form_length}
use Rattle.model.specs.GrammarOf.{grammar_of}
use Rattle.model.specs.Readings.{Reading, spelled, is_path, is_reading, word}
use Rattle.model.specs.Query.{Request, analysis, generation, query_of}
use Rattle.model.specs.Tree.{readings}
use Rattle.model.specs.Refusals.{Verdict, accepted, first_failing, right_length, format_tests, image_tests, image_verdict, word_tests, path_tests, pairing_tests, own_tests, request_tests, judge_tests, view_tests, point_tests, spelling_tests}
use Rattle.model.specs.Rows.{Reply, row_bytes, reply_number}
use Rattle.model.specs.Calls.{Sealing, steps_of, all_readings}
use Rattle.model.specs.Spelling.{word_spelled}
use Rattle.model.specs.Beside.{Judgement, FormReply, form_reply, Spelling, spelling_reply, after_spelling}
use Rattle.model.specs.Demand.{Demand3, IsMore, rows_handed_back}
use Rattle.model.specs.Unspelled.{Unspelled}
use Rattle.model.proofs.Listing.{ListsBy, listing_iff}
use Rattle.model.proofs.Endings.{image_listing}
use Rattle.model.proofs.Demand.{demand3_call}
use Rattle.model.proofs.Unspelled.{refused_14, refused_by_each}
use Rattle.image.specs.Sealing.{sealing_of}
use Rattle.grammar.specs.Answers.{verdict_of, form_reply_of}
use Rattle.grammar.proofs.Verdicts.{form_refused, view_none}
use Rattle.model.proofs.Tests.{tests_refused}
use Rattle.judge.specs.Answers.{judgement_of}
use Rattle.spelling.specs.Answers.{spelling_of}
use Rattle.rows.specs.Fill.{reply_of}
use Rattle.analyser.proofs.analyse.Reads as analyse
use Rattle.analyser.proofs.generate.Reads as generate
use Rattle.image.proofs.seal.seal.Reads as seal
use Rattle.grammar.proofs.check.Reads as check
use Rattle.grammar.proofs.form_reply.Reads as form-reply
use Rattle.grammar.proofs.form_view.Reads as form-view
use Rattle.judge.proofs.judge.Reads as judge
use Rattle.written_rules.specs.Judged.{text_tests, rules_tests}
use Rattle.written_rules.proofs.judge_rules.Reads as judge-rules
use Rattle.spelling.proofs.spell.Reads as spell
use Rattle.shares.specs.Words.{ManyReply, words_asked}
use Rattle.many.specs.Answers.{many_of}
use Rattle.many.proofs.analyse_words.Reads as analyse-words
use Rattle.conversion.specs.Conversion.{Conversion, conversion_tests, conversion_reply, after_conversion}
use Rattle.converter.specs.Answers.{conversion_of}
use Rattle.converter.proofs.convert.Reads as convert
use Rattle.headwords.proofs.headwords_analyse.Reads as headwords-analyse
use Rattle.headwords.proofs.headwords_analyse_words.Reads as headwords-analyse-words
use Rattle.headwords.proofs.headwords_generate.Reads as headwords-generate
use Rattle.headwords.proofs.headwords_check.Reads as headwords-check
use Rattle.headwords.proofs.headwords_seal.Reads as headwords-seal
use Rattle.headwords.proofs.headwords_judge.Reads as headwords-judge
use Rattle.headwords.proofs.headwords_judge_rules.Reads as headwords-judge-rules
use Rattle.headwords.proofs.headwords_form.Reads as headwords-form
use Rattle.headwords.proofs.headwords_spell.Reads as headwords-spell
use Rattle.headwords.proofs.headwords_convert.Reads as headwords-convert
use Rattle.headwords.specs.Numbers.{verdict_number, sealing_number, judgement_number, form_number, spelling_number, conversion_number, many_number}
use Rattle.print.proofs.Small.{Small}
use Rattle.demands.specs.Words.{in_table, FirstFails, Coding, JudgedSo, JudgedSoNumber, IsReading, KeepsRules, form_letters, FormCopied, SpelledOut, word_at, share_of, WordsAnswered, AmongWords, Asks, path_bytes}
use Rattle.demands.specs.Words.{ConvertedTo, AreBytes}
use Rattle.demands.proofs.Ends.{Ends, each_ends}
use Rattle.demands.proofs.Refusing.{InTable, fails_first, Case, either_of, not_both_of, by_first, by_table, unchanged_of}
use Rattle.demands.proofs.Calls as calls
use Rattle.demands.proofs.Calls.{Promised}
use Rattle.demands.proofs.Numbers as numbers
use Rattle.demands.proofs.Spelled.{word_handed, analysis_taken}
use Rattle.demands.proofs.Many.{words_case, many_coding, words_number_case, among_promised}
use Rattle.demands.proofs.Conversions.{conversion_table, conversion_case, conversion_coding, conversion_number_case, conversion_refused, there_and_back}
use Rattle.demands.proofs.Given.{reading_path, reading_forms, reading_tables, row_given}
use Rattle.demands.proofs.BothWays.{word_taken, path_taken, both_taken, image_accepted, rows_converse, readings_converse, path_in_row}

-- A listing: what one of the calls that list may reply and leave, by the image, what is asked, and the lent buffer before and after it. Each word of a call of
-- many words is one, unless its length byte is over 32: its buffer is its share of the rows, its reply what stands at its place.
-- In C the reply is the one that the number stands for; no two have one number (`codings`).
pub data Listing : List ℕ → Request → List ℕ → List ℕ → Reply → Type 1 where
  by_analyse : (κs : _) (a : _) (r : _) (s : _) → analyse.Post κs a r s → Listing a.0.now (analysis a.1.0.now) a.1.1.0.now s.1.1.0.now (reply_of r)
  by_generate : (κs : _) (a : _) (r : _) (s : _) → generate.Post κs a r s → Listing a.0.now (generation a.1.0.now) a.1.1.0.now s.1.1.0.now (reply_of r)
  in_C_analyse : (κs : _) (a : _) (r : _) (s : _) (reply : Reply) → headwords-analyse.Post κs a r s → r ≡ reply_number reply
      → Listing a.0.now (analysis a.1.0.now) a.1.1.0.now s.1.1.0.now reply
  in_C_generate : (κs : _) (a : _) (r : _) (s : _) (reply : Reply) → headwords-generate.Post κs a r s → r ≡ reply_number reply
      → Listing a.0.now (generation a.1.0.now) a.1.1.0.now s.1.1.0.now reply
  among_words : (κs : _) (a : _) (r : _) (s : _) (n i : ℕ) (reply : Reply) → analyse-words.Post κs a r s → many_of r ≡ ManyReply.words n
      → AmongWords a.1.0.now a.1.1.1.0.now s.1.1.0.now n i reply
      → Listing a.0.now (analysis (word_at a.1.0.now i)) (share_of a.0.now a.1.0.now a.1.1.0.now a.1.1.1.0.now a.1.1.1.0.now i) (share_of a.0.now a.1.0.now a.1.1.0.now a.1.1.1.0.now s.1.1.1.0.now i) reply
  in_C_among_words : (κs : _) (a : _) (r : _) (s : _) (n i : ℕ) (reply : Reply) → headwords-analyse-words.Post κs a r s → r ≡ 4 * n + 1
      → AmongWords a.1.0.now a.1.1.1.0.now s.1.1.0.now n i reply
      → Listing a.0.now (analysis (word_at a.1.0.now i)) (share_of a.0.now a.1.0.now a.1.1.0.now a.1.1.1.0.now a.1.1.1.0.now i) (share_of a.0.now a.1.0.now a.1.1.0.now a.1.1.1.0.now s.1.1.1.0.now i) reply

-- what all of them promise
promise : {image : List ℕ} {request : Request} {before after : List ℕ} {reply : Reply} → Listing image request before after reply → Promised image request before after reply
promise (by_analyse κs a r s p) = record { replies = p.0; leaves = p.1 }
promise (by_generate κs a r s p) = record { replies = p.0; leaves = p.1 }
promise (in_C_analyse κs a r s reply p e) = record { replies = (numbers.listing_coding).apart reply _ (sym e ∙ p.0); leaves = p.1 }
promise (in_C_generate κs a r s reply p e) = record { replies = (numbers.listing_coding).apart reply _ (sym e ∙ p.0); leaves = p.1 }
promise (among_words κs a r s n i reply p e w) = among_promised a.0.now a.1.0.now a.1.1.0.now a.1.1.1.0.now s.1.1.0.now s.1.1.1.0.now n i reply (sym p.0 ∙ e) p.1.0 p.1.1 w
promise (in_C_among_words κs a r s n i reply p e w) =
    among_promised a.0.now a.1.0.now a.1.1.0.now a.1.1.1.0.now s.1.1.0.now s.1.1.1.0.now n i reply (many_coding.apart _ (ManyReply.words n) (sym p.0 ∙ e)) p.1.0 p.1.1 w

-- DEMAND 1

-- "The program takes every image, word, path and buffer": no call has a `requires`, so each asks nothing of its caller.
pub takes_every :
    ((κs : _) (a : _) → analyse.Asked κs a)
    × ((κs : _) (a : _) → generate.Asked κs a)
    × ((κs : _) (a : _) → seal.Asked κs a)
    × ((κs : _) (a : _) → check.Asked κs a)
    × ((κs : _) (a : _) → form-reply.Asked κs a)
    × ((κs : _) (a : _) → form-view.Asked κs a)
    × ((κs : _) (a : _) → judge.Asked κs a)
    × ((κs : _) (a : _) → judge-rules.Asked κs a)
    × ((κs : _) (a : _) → spell.Asked κs a)
    × ((κs : _) (a : _) → analyse-words.Asked κs a)
    × ((κs : _) (a : _) → convert.Asked κs a)
    × ((κs : _) (a : _) → headwords-analyse.Asked κs a)
    × ((κs : _) (a : _) → headwords-generate.Asked κs a)
    × ((κs : _) (a : _) → headwords-seal.Asked κs a)
    × ((κs : _) (a : _) → headwords-check.Asked κs a)
    × ((κs : _) (a : _) → headwords-judge.Asked κs a)
    × ((κs : _) (a : _) → headwords-judge-rules.Asked κs a)
    × ((κs : _) (a : _) → headwords-form.Asked κs a)
    × ((κs : _) (a : _) → headwords-spell.Asked κs a)
    × ((κs : _) (a : _) → headwords-analyse-words.Asked κs a)
    × ((κs : _) (a : _) → headwords-convert.Asked κs a)
takes_every = (
  λ κs a. tt,
  λ κs a. tt,
  λ κs a. tt,
  λ κs a. tt,
  λ κs a. tt,
  λ κs a. tt,
  λ κs a. tt,
  λ κs a. tt,
  λ κs a. tt,
  λ κs a. tt,
  λ κs a. tt,
  λ κs a. tt,
  λ κs a. tt,
  λ κs a. tt,
  λ κs a. tt,
  λ κs a. tt,
  λ κs a. tt,
  λ κs a. tt,
  λ κs a. tt,
  λ κs a. tt,
  λ κs a. tt,
)

-- "ends": each of the twenty-one returns, from whatever it is lent.
pub ends : {M : Type 1} → Ends M
ends = each_ends

-- "and either does its work or refuses with a number of document 01's table. A refusal changes no byte that was lent.": of a call by its tests, what it is
-- that it refuses with k, that no byte lent to be written has changed, and that it does its work. (A slice lent to be read cannot change, by its type.)
pub record Demand1 (tests : List (ℕ × Bool)) (Refused : ℕ → Type 0) (Unchanged Work : Type 0) : Type 0 where
  -- "either does its work or refuses"
  pub either : Work ⊎ ((k : ℕ) × Refused k)
  pub not_both : (k : ℕ) → Refused k → Work → ⊥
  -- "with a number of document 01's table": with k exactly when test k fails and every test before it passes
  pub first_failing_lem : (k : ℕ) → Refused k ↔ FirstFails k tests
  pub in_table_lem : (k : ℕ) → Refused k → T (in_table k)
  -- "A refusal changes no byte that was lent."
  pub unchanged : (k : ℕ) → Refused k → Unchanged

demand1 : {tests : List (ℕ × Bool)} {Refused : ℕ → Type 0} {Unchanged Work : Type 0} → T (InTable tests) → Case Refused Unchanged Work (first_failing tests) → Demand1 tests Refused Unchanged Work
demand1 {tests} {Refused} {Unchanged} {Work} t c =
    record {
      either = either_of Refused Unchanged Work tests c;
      not_both = not_both_of Refused Unchanged Work tests c;
      first_failing_lem = by_first Refused Unchanged Work tests c;
      in_table_lem = by_table Refused Unchanged Work tests c t;
      unchanged = unchanged_of Refused Unchanged Work tests c;
    }

-- "the image check .. 1-8; every other call 1-8 and then its own"; 14 "tested after 8 and before 9", 15 to 17 "in that order after
-- 14", 19 and 20 "come after 13", 23 and 24 "in that order after 9": the numbers of the tests of each, in their order
pub tests_made : (image word path pairing text points : List ℕ) (e room : ℕ)
    → (map (λ t. t.0) (image_tests image) ≡ 1 ∷ 2 ∷ 3 ∷ 4 ∷ 5 ∷ 6 ∷ 7 ∷ 8 ∷ 14 ∷ [])
    × (map (λ t. t.0) (request_tests image (analysis word)) ≡ 1 ∷ 2 ∷ 3 ∷ 4 ∷ 5 ∷ 6 ∷ 7 ∷ 8 ∷ 14 ∷ 9 ∷ 10 ∷ [])
    × (map (λ t. t.0) (request_tests image (generation path)) ≡ 1 ∷ 2 ∷ 3 ∷ 4 ∷ 5 ∷ 6 ∷ 7 ∷ 8 ∷ 14 ∷ 11 ∷ 12 ∷ [])
    × (map (λ t. t.0) (judge_tests image path pairing) ≡ 1 ∷ 2 ∷ 3 ∷ 4 ∷ 5 ∷ 6 ∷ 7 ∷ 8 ∷ 14 ∷ 11 ∷ 12 ∷ 13 ∷ [])
    × (map (λ t. t.0) (rules_tests image pairing text) ≡ 1 ∷ 2 ∷ 3 ∷ 4 ∷ 5 ∷ 6 ∷ 7 ∷ 8 ∷ 14 ∷ 13 ∷ 19 ∷ 20 ∷ [])
    × (map (λ t. t.0) (view_tests image e) ≡ 1 ∷ 2 ∷ 3 ∷ 4 ∷ 5 ∷ 6 ∷ 7 ∷ 8 ∷ 14 ∷ 12 ∷ [])
    × (map (λ t. t.0) (spelling_tests image points room) ≡ 1 ∷ 2 ∷ 3 ∷ 4 ∷ 5 ∷ 6 ∷ 7 ∷ 8 ∷ 14 ∷ 9 ∷ 23 ∷ 24 ∷ [])
    × (map (λ t. t.0) (conversion_tests image room) ≡ 1 ∷ 2 ∷ 3 ∷ 4 ∷ 5 ∷ 6 ∷ 7 ∷ 8 ∷ 14 ∷ 15 ∷ 16 ∷ 17 ∷ [])
unfolding format_tests image_tests request_tests own_tests word_tests path_tests pairing_tests judge_tests text_tests rules_tests view_tests point_tests spelling_tests conversion_tests
tests_made image word path pairing text points e room = (refl, refl, refl, refl, refl, refl, refl, refl)

-- analysis and generation, from Rattle and from C: the image's tests and then the word's or the path's; their work is demand 3
pub demand1_listing : {image : List ℕ} {request : Request} {before after : List ℕ} {reply : Reply} → Listing image request before after reply
    → Demand1 (request_tests image request) (λ k. reply ≡ Reply.refused k) (after ≡ before) (Demand3 (all_readings image request) reply before after)
demand1_listing {image} {request} l = demand1 (calls.request_table image request) (calls.listing_case (promise l))

-- sealing: test 1 alone
pub demand1_seal : (κs : _) (a : _) (r : _) (s : _) → seal.Post κs a r s
    → let image = a.0.now in let after = s.0.now in
    Demand1 ((1, right_length image) ∷ []) (λ k. sealing_of r ≡ Sealing.refused k) (after ≡ image) ((sealing_of r ≡ Sealing.sealed) × (after ≡ sealed_image image))
demand1_seal κs a r s p = demand1 tt (calls.sealing_case a.0.now s.0.now (sealing_of r) p.0 p.1)

-- the image check: tests 1 to 8 and 14. It, the judge, the view and its companion are lent nothing to be written.
pub demand1_check : (κs : _) (a : _) (r : _) (s : _) → check.Post κs a r s
    → let image = a.0.now in
    Demand1 (image_tests image) (λ k. verdict_of r ≡ Verdict.refused k) Unit (verdict_of r ≡ accepted)
demand1_check κs a r s p = demand1 (calls.check_table a.0.now) (calls.check_case a.0.now (verdict_of r) p)

-- the judge: 1 to 8, 14, 11, 12 and 13
pub demand1_judge : (κs : _) (a : _) (r : _) (s : _) → judge.Post κs a r s
    → let image = a.0.now in let path = a.1.0.now in let pairing = a.1.1.0.now in
    Demand1 (judge_tests image path pairing) (λ k. judgement_of r ≡ Judgement.refused k) Unit (JudgedSo (IsReading image path pairing) (judgement_of r))
demand1_judge κs a r s p = demand1 (calls.judge_table a.0.now a.1.0.now a.1.1.0.now) (calls.judge_case a.0.now a.1.0.now a.1.1.0.now (judgement_of r) p)

-- the judge of written rules: 1 to 8, 14, 13, 19 and 20; it holds exactly when each rule's operator is kept at every place
pub demand1_judge_rules : (κs : _) (a : _) (r : _) (s : _) → judge-rules.Post κs a r s
    → let image = a.0.now in let pairing = a.1.0.now in let text = a.1.1.0.now in
    Demand1 (rules_tests image pairing text) (λ k. judgement_of r ≡ Judgement.refused k) Unit (JudgedSo (KeepsRules image pairing text) (judgement_of r))
demand1_judge_rules κs a r s p = demand1 (calls.rules_table a.0.now a.1.0.now a.1.1.0.now) (calls.rules_case a.0.now a.1.0.now a.1.1.0.now (judgement_of r) p)

-- the companion of the entry view: 1 to 8, 14, and 12 for a missing entry
pub demand1_form_reply : (κs : _) (a : _) (r : _) (s : _) → form-reply.Post κs a r s
    → let image = a.0.now in let e = a.1.0 in
    Demand1 (view_tests image e) (λ k. form_reply_of r ≡ FormReply.refused k) Unit (form_reply_of r ≡ FormReply.letters (form_length (entry image e)))
demand1_form_reply κs a r s p = demand1 (calls.view_table a.0.now a.1.0) (calls.form_case a.0.now a.1.0 (form_reply_of r) p)

-- the view, which has no reply but a part of the image: its companion on the same image and entry tells the refusal, and the part is then empty
pub demand1_form_view : (κs : _) (a : _) (r : _) (s : _) → form-view.Post κs a r s
    → (κs' : _) (a' : _) (r' : _) (s' : _) → form-reply.Post κs' a' r' s' → a'.0.now ≡ a.0.now → a'.1.0 ≡ a.1.0
    → let image = a.0.now in let e = a.1.0 in let n = form_length (entry image e) in
    Demand1 (view_tests image e) (λ k. (form_reply_of r' ≡ FormReply.refused k) × (r.now ≡ [])) Unit ((form_reply_of r' ≡ FormReply.letters n) × (r.now ≡ form_letters image e))
demand1_form_view κs a r s p κs' a' r' s' p' e f =
    demand1 (calls.view_table a.0.now a.1.0) (calls.view_case a.0.now a.1.0 (form_reply_of r') r.now (p' ∙ ap₂ (λ (i : List ℕ) (n : ℕ). form_reply i n) e f) p)

-- the spelling call: 1 to 8, 14, 9, 23 and 24
pub demand1_spell : (κs : _) (a : _) (r : _) (s : _) → spell.Post κs a r s
    → let image = a.0.now in let points = a.1.0.now in let before = a.1.1.0.now in let after = s.1.1.0.now in
    Demand1 (spelling_tests image points (length before)) (λ k. spelling_of r ≡ Spelling.refused k) (after ≡ before) ((spelling_of r ≡ Spelling.letters (length (word_spelled image points))) × SpelledOut image points before after)
demand1_spell κs a r s p =
    demand1 (calls.spelling_table a.0.now a.1.0.now (length a.1.1.0.now)) (calls.spelling_case a.0.now a.1.0.now a.1.1.0.now s.1.1.0.now (spelling_of r) p.0 p.1)

-- many words: the image's tests alone; what each word is refused for stands at its place
pub demand1_analyse_words : (κs : _) (a : _) (r : _) (s : _) → analyse-words.Post κs a r s
    → let image = a.0.now in let words = a.1.0.now in let replies = a.1.1.0.now in let rows = a.1.1.1.0.now in let places = s.1.1.0.now in let shares = s.1.1.1.0.now in
    Demand1 (image_tests image) (λ k. many_of r ≡ ManyReply.refused k) ((places ≡ replies) × (shares ≡ rows)) ((many_of r ≡ ManyReply.words (words_asked image words replies)) × WordsAnswered image words replies rows places shares)
demand1_analyse_words κs a r s p =
    demand1 (calls.check_table a.0.now) (words_case a.0.now a.1.0.now a.1.1.0.now a.1.1.1.0.now s.1.1.0.now s.1.1.1.0.now (many_of r) p.0 p.1.0 p.1.1)

-- the converter: 1 to 8, 14, 15, 16 and 17
pub demand1_convert : (κs : _) (a : _) (r : _) (s : _) → convert.Post κs a r s
    → let image = a.0.now in let before = a.1.0.now in let after = s.1.0.now in
    Demand1 (conversion_tests image (length before)) (λ k. conversion_of r ≡ Conversion.refused k) (after ≡ before) ((conversion_of r ≡ Conversion.converted) × ConvertedTo image after)
demand1_convert κs a r s p =
    demand1 (conversion_table a.0.now (length a.1.0.now)) (conversion_case a.0.now a.1.0.now s.1.0.now (conversion_of r) p.0 p.1)

-- The calls from C. Their coding loses nothing: no two replies have one number, and 4k + 3 is refused k alone.
pub codings :
    Coding reply_number Reply.refused
    × Coding sealing_number Sealing.refused
    × Coding verdict_number Verdict.refused
    × Coding judgement_number Judgement.refused
    × ((room : ℕ) → Coding (form_number room) FormReply.refused)
    × Coding spelling_number Spelling.refused
    × Coding many_number ManyReply.refused
    × Coding conversion_number Conversion.refused
codings = (numbers.listing_coding, numbers.sealing_coding, numbers.check_coding, numbers.judge_coding, numbers.form_coding, numbers.spelling_coding, many_coding, conversion_coding)

pub demand1_headwords_analyse : (κs : _) (a : _) (r : _) (s : _) → headwords-analyse.Post κs a r s
    → let image = a.0.now in let request = analysis a.1.0.now in let before = a.1.1.0.now in let after = s.1.1.0.now in
    Demand1 (request_tests image request) (λ k. r ≡ 4 * k + 3) (after ≡ before) ((reply : Reply) × (r ≡ reply_number reply) × Demand3 (all_readings image request) reply before after)
demand1_headwords_analyse κs a r s p =
    let request = analysis a.1.0.now in
    demand1 (calls.request_table a.0.now request) (numbers.listing_number_case a.0.now request a.1.1.0.now s.1.1.0.now r p.0 p.1)

pub demand1_headwords_generate : (κs : _) (a : _) (r : _) (s : _) → headwords-generate.Post κs a r s
    → let image = a.0.now in let request = generation a.1.0.now in let before = a.1.1.0.now in let after = s.1.1.0.now in
    Demand1 (request_tests image request) (λ k. r ≡ 4 * k + 3) (after ≡ before) ((reply : Reply) × (r ≡ reply_number reply) × Demand3 (all_readings image request) reply before after)
demand1_headwords_generate κs a r s p =
    let request = generation a.1.0.now in
    demand1 (calls.request_table a.0.now request) (numbers.listing_number_case a.0.now request a.1.1.0.now s.1.1.0.now r p.0 p.1)

pub demand1_headwords_seal : (κs : _) (a : _) (r : _) (s : _) → headwords-seal.Post κs a r s
    → let image = a.0.now in let after = s.0.now in
    Demand1 ((1, right_length image) ∷ []) (λ k. r ≡ 4 * k + 3) (after ≡ image) ((r ≡ 1) × (after ≡ sealed_image image))
demand1_headwords_seal κs a r s p = demand1 tt (numbers.sealing_number_case a.0.now s.0.now r p.0 p.1)

pub demand1_headwords_check : (κs : _) (a : _) (r : _) (s : _) → headwords-check.Post κs a r s
    → Demand1 (image_tests a.0.now) (λ k. r ≡ 4 * k + 3) Unit (r ≡ 1)
demand1_headwords_check κs a r s p = demand1 (calls.check_table a.0.now) (numbers.check_number_case a.0.now r p)

pub demand1_headwords_judge : (κs : _) (a : _) (r : _) (s : _) → headwords-judge.Post κs a r s
    → let image = a.0.now in let path = a.1.0.now in let pairing = a.1.1.0.now in
    Demand1 (judge_tests image path pairing) (λ k. r ≡ 4 * k + 3) Unit (JudgedSoNumber (IsReading image path pairing) r)
demand1_headwords_judge κs a r s p = demand1 (calls.judge_table a.0.now a.1.0.now a.1.1.0.now) (numbers.judge_number_case a.0.now a.1.0.now a.1.1.0.now r p)

pub demand1_headwords_judge_rules : (κs : _) (a : _) (r : _) (s : _) → headwords-judge-rules.Post κs a r s
    → let image = a.0.now in let pairing = a.1.0.now in let text = a.1.1.0.now in
    Demand1 (rules_tests image pairing text) (λ k. r ≡ 4 * k + 3) Unit (JudgedSoNumber (KeepsRules image pairing text) r)
demand1_headwords_judge_rules κs a r s p = demand1 (calls.rules_table a.0.now a.1.0.now a.1.1.0.now) (numbers.rules_number_case a.0.now a.1.0.now a.1.1.0.now r p)

pub demand1_headwords_form : (κs : _) (a : _) (r : _) (s : _) → headwords-form.Post κs a r s
    → let image = a.0.now in let e = a.1.0 in let before = a.1.1.0.now in let after = s.1.1.0.now in
    Demand1 (view_tests image e) (λ k. r ≡ 4 * k + 3) (after ≡ before) (FormCopied image e before after r)
demand1_headwords_form κs a r s p = demand1 (calls.view_table a.0.now a.1.0) (numbers.form_number_case a.0.now a.1.0 a.1.1.0.now s.1.1.0.now r p.0 p.1)

pub demand1_headwords_spell : (κs : _) (a : _) (r : _) (s : _) → headwords-spell.Post κs a r s
    → let image = a.0.now in let points = a.1.0.now in let before = a.1.1.0.now in let after = s.1.1.0.now in
    Demand1 (spelling_tests image points (length before)) (λ k. r ≡ 4 * k + 3) (after ≡ before) ((r ≡ 4 * length (word_spelled image points) + 1) × SpelledOut image points before after)
demand1_headwords_spell κs a r s p =
    demand1 (calls.spelling_table a.0.now a.1.0.now (length a.1.1.0.now)) (numbers.spelling_number_case a.0.now a.1.0.now a.1.1.0.now s.1.1.0.now r p.0 p.1)

pub demand1_headwords_analyse_words : (κs : _) (a : _) (r : _) (s : _) → headwords-analyse-words.Post κs a r s
    → let image = a.0.now in let words = a.1.0.now in let replies = a.1.1.0.now in let rows = a.1.1.1.0.now in let places = s.1.1.0.now in let shares = s.1.1.1.0.now in
    Demand1 (image_tests image) (λ k. r ≡ 4 * k + 3) ((places ≡ replies) × (shares ≡ rows)) ((r ≡ 4 * words_asked image words replies + 1) × WordsAnswered image words replies rows places shares)
demand1_headwords_analyse_words κs a r s p =
    demand1 (calls.check_table a.0.now) (words_number_case a.0.now a.1.0.now a.1.1.0.now a.1.1.1.0.now s.1.1.0.now s.1.1.1.0.now r p.0 p.1.0 p.1.1)

pub demand1_headwords_convert : (κs : _) (a : _) (r : _) (s : _) → headwords-convert.Post κs a r s
    → let image = a.0.now in let before = a.1.0.now in let after = s.1.0.now in
    Demand1 (conversion_tests image (length before)) (λ k. r ≡ 4 * k + 3) (after ≡ before) ((r ≡ 1) × ConvertedTo image after)
demand1_headwords_convert κs a r s p =
    demand1 (conversion_table a.0.now (length a.1.0.now)) (conversion_number_case a.0.now a.1.0.now s.1.0.now r p.0 p.1)

-- Document 02, (b): "Such an image is to be refused by every call but sealing.": one that passes tests 1 to 8 and has an entry that can never be spelled is
-- refused with 14 by each of the other nineteen, whatever it is asked for, and no byte changes. In C 4k + 3 is 59.
abbrev pub Slipped : List ℕ → Type 0
Slipped image = (first_failing (format_tests image) ≡ accepted) × ((e : ℕ) × Unspelled image e)

-- from demand 1, for any call that begins with the image's tests
refused_with_14 : {tests : List (ℕ × Bool)} {Refused : ℕ → Type 0} {Unchanged Work : Type 0} → first_failing tests ≡ Verdict.refused 14 → Demand1 tests Refused Unchanged Work → Refused 14 × Unchanged
refused_with_14 {tests} f d = let r = (d.first_failing_lem 14).1 ((fails_first tests 14).0 f) in (r, d.unchanged 14 r)

slip_refused : (image : List ℕ) → Slipped image → image_verdict image ≡ Verdict.refused 14
slip_refused image u = (refused_14 image).1 u

pub unspelled_listing : {image : List ℕ} {request : Request} {before after : List ℕ} {reply : Reply} → Listing image request before after reply → Slipped image
    → (reply ≡ Reply.refused 14) × (after ≡ before)
unspelled_listing {image} {request} l u = refused_with_14 ((refused_by_each image (slip_refused image u)).0 request) (demand1_listing l)

rules_refused : (image pairing text : List ℕ) → image_verdict image ≡ Verdict.refused 14 → first_failing (rules_tests image pairing text) ≡ Verdict.refused 14
unfolding image_verdict rules_tests
rules_refused image pairing text v = tests_refused (image_tests image) (pairing_tests image pairing ++ text_tests image text) 14 v

pub unspelled_refused :
    ((κs : _) (a : _) (r : _) (s : _) → check.Post κs a r s → Slipped a.0.now → verdict_of r ≡ Verdict.refused 14)
    × ((κs : _) (a : _) (r : _) (s : _) → judge.Post κs a r s → Slipped a.0.now → judgement_of r ≡ Judgement.refused 14)
    × ((κs : _) (a : _) (r : _) (s : _) → judge-rules.Post κs a r s → Slipped a.0.now → judgement_of r ≡ Judgement.refused 14)
    × ((κs : _) (a : _) (r : _) (s : _) → form-reply.Post κs a r s → Slipped a.0.now → form_reply_of r ≡ FormReply.refused 14)
    × ((κs : _) (a : _) (r : _) (s : _) → form-view.Post κs a r s → Slipped a.0.now → r.now ≡ [])
    × ((κs : _) (a : _) (r : _) (s : _) → spell.Post κs a r s → Slipped a.0.now → (spelling_of r ≡ Spelling.refused 14) × (s.1.1.0.now ≡ a.1.1.0.now))
    × ((κs : _) (a : _) (r : _) (s : _) → analyse-words.Post κs a r s → Slipped a.0.now → (many_of r ≡ ManyReply.refused 14) × (s.1.1.0.now ≡ a.1.1.0.now) × (s.1.1.1.0.now ≡ a.1.1.1.0.now))
    × ((κs : _) (a : _) (r : _) (s : _) → convert.Post κs a r s → Slipped a.0.now → (conversion_of r ≡ Conversion.refused 14) × (s.1.0.now ≡ a.1.0.now))
    × ((κs : _) (a : _) (r : _) (s : _) → headwords-analyse.Post κs a r s → Slipped a.0.now → (r ≡ 59) × (s.1.1.0.now ≡ a.1.1.0.now))
    × ((κs : _) (a : _) (r : _) (s : _) → headwords-generate.Post κs a r s → Slipped a.0.now → (r ≡ 59) × (s.1.1.0.now ≡ a.1.1.0.now))
    × ((κs : _) (a : _) (r : _) (s : _) → headwords-check.Post κs a r s → Slipped a.0.now → r ≡ 59)
    × ((κs : _) (a : _) (r : _) (s : _) → headwords-judge.Post κs a r s → Slipped a.0.now → r ≡ 59)
    × ((κs : _) (a : _) (r : _) (s : _) → headwords-judge-rules.Post κs a r s → Slipped a.0.now → r ≡ 59)
    × ((κs : _) (a : _) (r : _) (s : _) → headwords-form.Post κs a r s → Slipped a.0.now → (r ≡ 59) × (s.1.1.0.now ≡ a.1.1.0.now))
    × ((κs : _) (a : _) (r : _) (s : _) → headwords-spell.Post κs a r s → Slipped a.0.now → (r ≡ 59) × (s.1.1.0.now ≡ a.1.1.0.now))
    × ((κs : _) (a : _) (r : _) (s : _) → headwords-analyse-words.Post κs a r s → Slipped a.0.now → (r ≡ 59) × (s.1.1.0.now ≡ a.1.1.0.now) × (s.1.1.1.0.now ≡ a.1.1.1.0.now))
    × ((κs : _) (a : _) (r : _) (s : _) → headwords-convert.Post κs a r s → Slipped a.0.now → (r ≡ 59) × (s.1.0.now ≡ a.1.0.now))
unfolding image_verdict
unspelled_refused = (
  λ κs a r s p u. (refused_with_14 (slip_refused a.0.now u) (demand1_check κs a r s p)).0,
  λ κs a r s p u. (refused_with_14 ((refused_by_each a.0.now (slip_refused a.0.now u)).1 a.1.0.now a.1.1.0.now) (demand1_judge κs a r s p)).0,
  λ κs a r s p u. (refused_with_14 (rules_refused a.0.now a.1.0.now a.1.1.0.now (slip_refused a.0.now u)) (demand1_judge_rules κs a r s p)).0,
  λ κs a r s p u. (refused_with_14 ((refused_by_each a.0.now (slip_refused a.0.now u)).2 a.1.0) (demand1_form_reply κs a r s p)).0,
  λ κs a r s p u. p ∙ sym (view_none a.0.now a.1.0 14 (sym (form_refused a.0.now a.1.0 14 (slip_refused a.0.now u)))),
  λ κs a r s p u. refused_with_14 ((refused_by_each a.0.now (slip_refused a.0.now u)).3 a.1.0.now (length a.1.1.0.now)) (demand1_spell κs a r s p),
  λ κs a r s p u. let t = refused_with_14 (slip_refused a.0.now u) (demand1_analyse_words κs a r s p) in (t.0, t.1.0, t.1.1),
  λ κs a r s p u. refused_with_14 (conversion_refused a.0.now (length a.1.0.now) 14 (slip_refused a.0.now u)) (demand1_convert κs a r s p),
  λ κs a r s p u. refused_with_14 ((refused_by_each a.0.now (slip_refused a.0.now u)).0 (analysis a.1.0.now)) (demand1_headwords_analyse κs a r s p),
  λ κs a r s p u. refused_with_14 ((refused_by_each a.0.now (slip_refused a.0.now u)).0 (generation a.1.0.now)) (demand1_headwords_generate κs a r s p),
  λ κs a r s p u. (refused_with_14 (slip_refused a.0.now u) (demand1_headwords_check κs a r s p)).0,
  λ κs a r s p u. (refused_with_14 ((refused_by_each a.0.now (slip_refused a.0.now u)).1 a.1.0.now a.1.1.0.now) (demand1_headwords_judge κs a r s p)).0,
  λ κs a r s p u. (refused_with_14 (rules_refused a.0.now a.1.0.now a.1.1.0.now (slip_refused a.0.now u)) (demand1_headwords_judge_rules κs a r s p)).0,
  λ κs a r s p u. refused_with_14 ((refused_by_each a.0.now (slip_refused a.0.now u)).2 a.1.0) (demand1_headwords_form κs a r s p),
  λ κs a r s p u. refused_with_14 ((refused_by_each a.0.now (slip_refused a.0.now u)).3 a.1.0.now (length a.1.1.0.now)) (demand1_headwords_spell κs a r s p),
  λ κs a r s p u. let t = refused_with_14 (slip_refused a.0.now u) (demand1_headwords_analyse_words κs a r s p) in (t.0, t.1.0, t.1.1),
  λ κs a r s p u. refused_with_14 (conversion_refused a.0.now (length a.1.0.now) 14 (slip_refused a.0.now u)) (demand1_headwords_convert κs a r s p),
)

-- Document 02, (m): the letters that the spelling call hands over pass 9 and 10, and analysis of them on the same image refuses nothing.
abbrev pub Taken : List ℕ → List ℕ → Type 1
Taken image w =
    (first_failing (word_tests image w) ≡ accepted)
    × ((before after : List ℕ) (reply : Reply) → Listing image (analysis w) before after reply → (k : ℕ) → reply ≡ Reply.refused k → ⊥)

taken : (image points before after : List ℕ) (n : ℕ) → spelling_reply image points (length before) ≡ Spelling.letters n → after ≡ after_spelling image points before → Taken image (take n after)
taken image points before after n replied leaves = (
  word_handed image points before after n replied leaves,
  λ before' after' reply l. (calls.listing_passed (promise l) (analysis_taken image points before after n replied leaves)).1,
)

pub spelled_taken : (κs : _) (a : _) (r : _) (s : _) → spell.Post κs a r s → (n : ℕ) → spelling_of r ≡ Spelling.letters n → Taken a.0.now (take n s.1.1.0.now)
spelled_taken κs a r s p n e = taken a.0.now a.1.0.now a.1.1.0.now s.1.1.0.now n (sym p.0 ∙ e) p.1

pub headwords_spelled_taken : (κs : _) (a : _) (r : _) (s : _) → headwords-spell.Post κs a r s → (n : ℕ) → r ≡ 4 * n + 1 → Taken a.0.now (take n s.1.1.0.now)
headwords_spelled_taken κs a r s p n e =
    taken a.0.now a.1.0.now a.1.1.0.now s.1.1.0.now n ((numbers.spelling_coding).apart _ (Spelling.letters n) (sym p.0 ∙ e)) p.1

-- Document 02, (e): "From 1 to 2 and back gives the same bytes": of two calls, the second on what the first left, with a target as long as the image was.
pub converted_back : (κs : _) (a : _) (r : _) (s : _) → convert.Post κs a r s → conversion_of r ≡ Conversion.converted → (header a.0.now).form ≡ 1 → AreBytes a.0.now
    → (κs' : _) (a' : _) (r' : _) (s' : _) → convert.Post κs' a' r' s' → a'.0.now ≡ s.1.0.now → length a'.1.0.now ≡ length a.0.now
    → (conversion_of r' ≡ Conversion.converted) × (s'.1.0.now ≡ a.0.now)
converted_back κs a r s p e first bytes κs' a' r' s' p' same long =
    let b = there_and_back a.0.now a.1.0.now (sym p.0 ∙ e) first bytes a'.1.0.now long in
    let here = same ∙ p.1 in (
      p'.0 ∙ ap (λ (i : List ℕ). conversion_reply i (length a'.1.0.now)) here ∙ b.0,
      p'.1 ∙ ap (λ (i : List ℕ). after_conversion i a'.1.0.now) here ∙ b.1,
    )

pub headwords_converted_back : (κs : _) (a : _) (r : _) (s : _) → headwords-convert.Post κs a r s → r ≡ 1 → (header a.0.now).form ≡ 1 → AreBytes a.0.now
    → (κs' : _) (a' : _) (r' : _) (s' : _) → headwords-convert.Post κs' a' r' s' → a'.0.now ≡ s.1.0.now → length a'.1.0.now ≡ length a.0.now
    → (r' ≡ 1) × (s'.1.0.now ≡ a.0.now)
headwords_converted_back κs a r s p e first bytes κs' a' r' s' p' same long =
    let replied = conversion_coding.apart _ Conversion.converted (sym p.0 ∙ e) in
    let b = there_and_back a.0.now a.1.0.now replied first bytes a'.1.0.now long in
    let here = same ∙ p.1 in (
      p'.0 ∙ ap (λ (i : List ℕ). conversion_number (conversion_reply i (length a'.1.0.now))) here ∙ ap conversion_number b.0,
      p'.1 ∙ ap (λ (i : List ℕ). after_conversion i a'.1.0.now) here ∙ b.1,
    )

-- DEMAND 2

-- "A row is given only if its path runs through the lexicon, its pairing spells path and word, and every rule table accepts it."
pub record Given (image : List ℕ) (request : Request) (row : List ℕ) : Type 0 where
  pub reading : Reading
  pub as_row : row ≡ row_bytes reading
  -- "its path runs through the lexicon"
  pub through_lexicon : T (is_path (grammar_of image) reading.path)
  -- "its pairing spells path"
  pub spells_path_lem : spelled (grammar_of image).lexical reading.pairing ≡ joined (map (grammar_of image).form reading.path)
  -- "and word": the word that was asked for; generation is asked for the path
  pub asked : Asks (grammar_of image) request reading
  -- "every rule table accepts it", with the boundary pair before and after it
  pub tables_accept : (rule : ℕ) → rule < (grammar_of image).rules → T (accepts ((grammar_of image).next rule) ((grammar_of image).final rule) 1 (fed (grammar_of image).pairs reading.pairing))
  -- and document 01's limits
  pub is_reading_lem : T (is_reading (grammar_of image) reading)

pub demand2 : {image : List ℕ} {request : Request} {before after : List ℕ} {reply : Reply} → Listing image request before after reply
    → (row : List ℕ) → Memᴰ row (rows_handed_back reply after) → Given image request row
demand2 {image} l row m =
    let g = grammar_of image in
    let t = row_given (promise l) row m in
    record {
      reading = t.0;
      as_row = t.1;
      through_lexicon = reading_path g t.0 t.2;
      spells_path_lem = reading_forms g t.0 t.2;
      asked = t.3;
      tables_accept = reading_tables g t.0 t.2;
      is_reading_lem = t.2;
    }

-- "Generation is the converse: a reading is among a word's readings exactly when it is among those of its path and spells that word.": of the lists
pub converse : (image w : List ℕ) (r : Reading) → image_verdict image ≡ accepted
    → Memᴰ r (all_readings image (analysis w)) ↔ (Memᴰ r (all_readings image (generation (path_bytes r.path))) × (word (grammar_of image) r ≡ w))
converse = readings_converse

-- and of the rows that two calls hand back, on one image, where neither replies "more"; r is any path and pairing that a row has room for
pub converse_calls : (image w : List ℕ) (r : Reading) → Small r
    → {before after : List ℕ} {reply : Reply} → Listing image (analysis w) before after reply → (IsMore reply → ⊥)
    → {before' after' : List ℕ} {reply' : Reply} → Listing image (generation (path_bytes r.path)) before' after' reply' → (IsMore reply' → ⊥)
    → Memᴰ (row_bytes r) (rows_handed_back reply after) ↔ (Memᴰ (row_bytes r) (rows_handed_back reply' after') × (word (grammar_of image) r ≡ w))
converse_calls image w r fits l whole l' whole' = rows_converse fits (promise l) whole (promise l') whole'

-- Each call can be asked for what the other hands back: a reading's word passes tests 9 and 10, its path 11 and 12,
pub reading_admissible : (image : List ℕ) → image_verdict image ≡ accepted → (r : Reading) → T (is_reading (grammar_of image) r)
    → (first_failing (word_tests image (word (grammar_of image) r)) ≡ accepted) × (first_failing (path_tests image (path_bytes r.path)) ≡ accepted)
reading_admissible image a r t = (word_taken image a r t, path_taken image a r t)

-- whose bytes stand in its row from byte 2 on,
pub path_bytes_lem : (r : Reading) → Small r → take (2 * length r.path) (drop 2 (row_bytes r)) ≡ path_bytes r.path
path_bytes_lem r fits = path_in_row r fits.entries_most

-- and neither call refuses them
pub handed_on : {image : List ℕ} {request : Request} {before after : List ℕ} {reply : Reply} (l : Listing image request before after reply) (row : List ℕ) (m : Memᴰ row (rows_handed_back reply after))
    → let r = (demand2 l row m).reading in
    (before' after' : List ℕ) (reply' : Reply) → Listing image (analysis (word (grammar_of image) r)) before' after' reply' ⊎ Listing image (generation (path_bytes r.path)) before' after' reply'
    → (k : ℕ) → reply' ≡ Reply.refused k → ⊥
handed_on {image} l row m before' after' reply' c = go c
  where
    r : Reading
    r = (demand2 l row m).reading

    both : (first_failing (request_tests image (analysis (word (grammar_of image) r))) ≡ accepted) × (first_failing (request_tests image (generation (path_bytes r.path))) ≡ accepted)
    both = both_taken image (image_accepted (promise l) row m) r (demand2 l row m).is_reading_lem

    go : Listing image (analysis (word (grammar_of image) r)) before' after' reply' ⊎ Listing image (generation (path_bytes r.path)) before' after' reply' → (k : ℕ) → reply' ≡ Reply.refused k → ⊥
    go (inl c) = (calls.listing_passed (promise c) both.0).1
    go (inr c) = (calls.listing_passed (promise c) both.1).1

-- DEMAND 3

-- "For every accepted grammar, admissible word, complete path and lent buffer, whatever it held: the rows handed back and the list of all readings (each
-- once, in step order) are equal exactly when the reply is not "more".": `equal_unless_more` of Demand3. `l` is the list, by ListsBy: exactly the readings
-- that answer the request, strictly ascending by the step list of the image's form, so each once.
-- "Under "more" the rows fill the buffer and are a proper beginning of that list.": `more_fills`, `more_begins`.
-- "No byte past them changes.": `same_length`, `past_unchanged`.
-- "The reply is "none" exactly when the list is empty.": `none_when_empty`.
pub demand3 : {image : List ℕ} {request : Request} {before after : List ℕ} {reply : Reply} → Listing image request before after reply
    → image_verdict image ≡ accepted → first_failing (own_tests image request) ≡ accepted
    → (l : List Reading) → ListsBy (steps_of image) (grammar_of image) (query_of request) l → Demand3 l reply before after
unfolding all_readings
demand3 {image} {request} {before} {after} {reply} c a b l i =
    subst (λ (l : List Reading). Demand3 l reply before after) (sym ((listing_iff (readings (grammar_of image) (query_of request)) (image_listing image (query_of request)) l).0 i)) ((demand3_call image request before after a b reply).1 ((promise c).replies, (promise c).leaves))
