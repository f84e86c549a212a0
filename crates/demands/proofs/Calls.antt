-- What each call replies and leaves, by the verdict of its tests: a refusal and nothing changed, or its work.
use Prim.Native.Nat.{ℕ, ◌%◌, ◌≤◌}
use native.Mathlib.Omega.{arith}
use mathlib.Core.Bool.{Bool, true, false, ◌&&◌, cond}
use mathlib.Core.Path.{◌≡◌, refl, sym, ap, ◌∙◌, subst}
use mathlib.Core.Logic.{◌↔◌, inl, inr}
use mathlib.Core.List.{List, [], ◌∷◌, ◌++◌}
use lib.ListN.{length}
use lib.Dec.{T, leb, eqb}
use borrow.Author.Tests.{leb-true}
use Rattle.model.specs.Lists.{every, numbers}
use Rattle.model.specs.Blocks.{header, sealed_image}
use Rattle.model.specs.Lexicon.{entry, form_length}
use Rattle.model.specs.GrammarOf.{grammar_of}
use Rattle.model.specs.Readings.{Reading, word_length, is_reading}
use Rattle.model.specs.Spelling.{word_spelled}
use Rattle.model.specs.Query.{Request, analysis, generation, entry_numbers}
use Rattle.model.specs.Refusals.{Verdict, accepted, refused, unless, first_failing, right_length, format_tests, image_tests, image_verdict, word_tests, path_tests, pairing_tests, own_tests, request_tests, judge_tests, view_tests, point_tests, spelling_tests}
use Rattle.model.specs.Rows.{Reply, row_count}
use Rattle.model.specs.Calls.{Sealing, sealing_reply, after_sealing, request_verdict, all_readings, listing_reply, after_listing}
use Rattle.model.specs.Beside.{Judgement, FormReply, Spelling, judgement_after, judged, view_after, form_reply_after, viewed, form_reply, spelling_after, written_after, spelling_verdict, spelling_reply, after_spelling}
use Rattle.model.specs.Demand.{Demand3, as_rows}
use Rattle.model.proofs.Booleans.{of_true}
use Rattle.model.proofs.Demand.{demand3_call}
use Rattle.model.proofs.Tests.{clash, passed, tests_append}
use Rattle.model.proofs.Spelling.{length_spelled}
use Rattle.spelling.proofs.Replies.{spelled_passes}
use Rattle.analyser.proofs.Replies.{refused_by}
use Rattle.rule_texts.specs.Text.{is_text, pairs_known, obeys_text}
use Rattle.rule_texts.proofs.Obeyed.{obeyed_iff}
use Rattle.written_rules.specs.Judged.{text_tests, rules_tests, rules_judged}
use Rattle.demands.specs.Words.{JudgedSo, IsReading, KeepsRules, form_letters, SpelledOut}
use Rattle.demands.proofs.Refusing.{Case, InTable}

-- a reply that refuses lists nothing
refused_lists_not : (l : List Reading) (k : ℕ) (before after : List ℕ) → Demand3 l (Reply.refused k) before after → ⊥
refused_lists_not l k before after d = go l d.none_when_empty.1 (d.equal_unless_more.1 (λ m. m))
  where
    go : (l : List Reading) → (l ≡ [] → Reply.refused k ≡ Reply.none) → [] ≡ as_rows l → ⊥
    go [] f e = let h = f refl in clash (cc)
    go (r ∷ l) f e = omega (arith, ap length e)

-- the numbers of the tests
module _ (image : List ℕ) where
  pub request_table : (request : Request) → T (InTable (request_tests image request))
  unfolding request_tests own_tests format_tests image_tests word_tests path_tests
  request_table (analysis word) = tt
  request_table (generation path) = tt

  pub check_table : T (InTable (image_tests image))
  unfolding format_tests image_tests
  check_table = tt

  pub judge_table : (path pairing : List ℕ) → T (InTable (judge_tests image path pairing))
  unfolding judge_tests format_tests image_tests path_tests pairing_tests
  judge_table path pairing = tt

  pub rules_table : (pairing text : List ℕ) → T (InTable (rules_tests image pairing text))
  unfolding rules_tests text_tests format_tests image_tests pairing_tests
  rules_table pairing text = tt

  pub view_table : (e : ℕ) → T (InTable (view_tests image e))
  unfolding view_tests format_tests image_tests
  view_table e = tt

  pub spelling_table : (points : List ℕ) (room : ℕ) → T (InTable (spelling_tests image points room))
  unfolding spelling_tests point_tests format_tests image_tests
  spelling_table points room = tt

-- what the contracts of analysis and generation promise
pub record Promised (image : List ℕ) (request : Request) (before after : List ℕ) (reply : Reply) : Type 0 where
  pub replies : reply ≡ listing_reply image request (row_count before)
  pub leaves : after ≡ after_listing image request before

module _ {image : List ℕ} {request : Request} {before after : List ℕ} {reply : Reply} (p : Promised image request before after reply) where
  abbrev all : List Reading
  all = all_readings image request

  pub listing_case : Case (λ k. reply ≡ Reply.refused k) (after ≡ before) (Demand3 all reply before after) (first_failing (request_tests image request))
  unfolding request_verdict request_tests image_verdict
  listing_case = go (first_failing (request_tests image request)) refl
    where
      go : (v : Verdict) → first_failing (request_tests image request) ≡ v → Case (λ k. reply ≡ Reply.refused k) (after ≡ before) (Demand3 all reply before after) v
      go Verdict.accepted e =
          let t = (tests_append (image_tests image) (own_tests image request)).0 e in
          let d = (demand3_call image request before after t.0 t.1 reply).1 (p.replies, p.leaves) in
          (d, λ k f. refused_lists_not all k before after (subst (λ (x : Reply). Demand3 all x before after) f d))
      go (Verdict.refused k) e =
          let r = refused_by image request before k e in
          let f = p.replies ∙ sym r.0 in
          (f, λ j g. cc, p.leaves ∙ sym r.1, λ d. refused_lists_not all k before after (subst (λ (x : Reply). Demand3 all x before after) f d))

  -- where every test passes
  pub listing_passed : first_failing (request_tests image request) ≡ accepted → Demand3 all reply before after × ((k : ℕ) → reply ≡ Reply.refused k → ⊥)
  listing_passed e = subst (Case (λ k. reply ≡ Reply.refused k) (after ≡ before) (Demand3 all reply before after)) e listing_case

-- sealing
module _ (image after : List ℕ) (reply : Sealing) (replies : reply ≡ sealing_reply image) (leaves : after ≡ after_sealing image) where
  pub sealing_case : Case (λ k. reply ≡ Sealing.refused k) (after ≡ image) ((reply ≡ Sealing.sealed) × (after ≡ sealed_image image)) (first_failing ((1, right_length image) ∷ []))
  unfolding sealing_reply after_sealing
  sealing_case = go (right_length image) replies leaves
    where
      go : (b : Bool) → reply ≡ cond b Sealing.sealed (Sealing.refused 1) → after ≡ cond b (sealed_image image) image
          → Case (λ k. reply ≡ Sealing.refused k) (after ≡ image) ((reply ≡ Sealing.sealed) × (after ≡ sealed_image image)) (unless b 1 accepted)
      go true e f = ((e, f), λ k g. clash (cc))
      go false e f = (e, λ j g. cc, f, λ w. let g = w.0 in clash (cc))

-- the image check
module _ (image : List ℕ) (reply : Verdict) (replies : reply ≡ image_verdict image) where
  pub check_case : Case (λ k. reply ≡ refused k) Unit (reply ≡ accepted) (first_failing (image_tests image))
  unfolding image_verdict
  check_case = go (first_failing (image_tests image)) replies
    where
      go : (v : Verdict) → reply ≡ v → Case (λ k. reply ≡ refused k) Unit (reply ≡ accepted) v
      go Verdict.accepted e = (e, λ k g. clash (cc))
      go (Verdict.refused k) e = (e, λ j g. cc, tt, λ g. clash (cc))

-- a call that judges, by its tests and by what it finds where they pass
pub judgement_case : (tests : List (ℕ × Bool)) (b : Bool) (So : Type 0) (reply : Judgement) → (first_failing tests ≡ accepted → T b ↔ So) → reply ≡ judgement_after (first_failing tests) b
    → Case (λ k. reply ≡ Judgement.refused k) Unit (JudgedSo So reply) (first_failing tests)
judgement_case tests b So reply when replies = go (first_failing tests) b when replies
  where
    go : (v : Verdict) (b : Bool) → (v ≡ accepted → T b ↔ So) → reply ≡ judgement_after v b → Case (λ k. reply ≡ Judgement.refused k) Unit (JudgedSo So reply) v
    go Verdict.accepted true f e = (inl (e, (f refl).0 tt), λ k g. clash (cc))
    go Verdict.accepted false f e = (inr (e, λ t. (f refl).1 t), λ k g. clash (cc))
    go (Verdict.refused k) b f e = (e, λ j g. cc, tt, not_judged)
      where
        not_judged : JudgedSo So reply → ⊥
        not_judged (inl w) = let g = w.0 in clash (cc)
        not_judged (inr w) = let g = w.0 in clash (cc)

-- the judge, and the judge of written rules
module _ (image path pairing : List ℕ) where
  pub judge_case : (reply : Judgement) → reply ≡ judged image path pairing → Case (λ k. reply ≡ Judgement.refused k) Unit (JudgedSo (IsReading image path pairing) reply) (first_failing (judge_tests image path pairing))
  unfolding judged
  judge_case reply replies = judgement_case (judge_tests image path pairing) (is_reading (grammar_of image) (record { path = entry_numbers path; pairing = pairing })) (IsReading image path pairing) reply (λ e. (λ t. t, λ t. t)) replies

module _ (image pairing text : List ℕ) where
  -- where the tests pass, the text is of the grammar
  of_grammar : first_failing (rules_tests image pairing text) ≡ accepted → T (is_text text)
  unfolding rules_tests text_tests
  of_grammar e =
      let t = (tests_append (image_tests image) (pairing_tests image pairing ++ text_tests image text)).0 e in
      let u = (tests_append (pairing_tests image pairing) (text_tests image text)).0 t.1 in
      of_true (is_text text) (passed (is_text text) 19 (first_failing ((20, pairs_known (header image).pairs text) ∷ [])) u.1).0

  pub rules_case : (reply : Judgement) → reply ≡ rules_judged image pairing text → Case (λ k. reply ≡ Judgement.refused k) Unit (JudgedSo (KeepsRules image pairing text) reply) (first_failing (rules_tests image pairing text))
  unfolding rules_judged
  rules_case reply replies = judgement_case (rules_tests image pairing text) (obeys_text (grammar_of image).lexical text pairing) (KeepsRules image pairing text) reply (λ e. obeyed_iff (grammar_of image).lexical pairing text (of_grammar e)) replies

-- the entry view and its companion
module _ (image : List ℕ) (e : ℕ) where
  pub form_case : (reply : FormReply) → reply ≡ form_reply image e → Case (λ k. reply ≡ FormReply.refused k) Unit (reply ≡ FormReply.letters (form_length (entry image e))) (first_failing (view_tests image e))
  unfolding form_reply
  form_case reply replies = go (first_failing (view_tests image e)) replies
    where
      go : (v : Verdict) → reply ≡ form_reply_after v (form_length (entry image e)) → Case (λ k. reply ≡ FormReply.refused k) Unit (reply ≡ FormReply.letters (form_length (entry image e))) v
      go Verdict.accepted f = (f, λ k g. clash (cc))
      go (Verdict.refused k) f = (f, λ j g. cc, tt, λ g. clash (cc))

  pub view_case : (reply : FormReply) (part : List ℕ) → reply ≡ form_reply image e → part ≡ viewed image e
      → Case (λ k. (reply ≡ FormReply.refused k) × (part ≡ [])) Unit ((reply ≡ FormReply.letters (form_length (entry image e))) × (part ≡ form_letters image e)) (first_failing (view_tests image e))
  unfolding form_reply viewed
  view_case reply part replies views = go (first_failing (view_tests image e)) replies views
    where
      go : (v : Verdict) → reply ≡ form_reply_after v (form_length (entry image e)) → part ≡ view_after v (form_letters image e)
          → Case (λ k. (reply ≡ FormReply.refused k) × (part ≡ [])) Unit ((reply ≡ FormReply.letters (form_length (entry image e))) × (part ≡ form_letters image e)) v
      go Verdict.accepted f g = ((f, g), λ k h. let i = h.0 in clash (cc))
      go (Verdict.refused k) f g = ((f, g), λ j h. let i = h.0 in cc, tt, λ h. let i = h.0 in clash (cc))

-- the spelling call
module _ (image points before after : List ℕ) (reply : Spelling) (replies : reply ≡ spelling_reply image points (length before)) (leaves : after ≡ after_spelling image points before) where
  -- by the last of its tests, the output has room for the word
  spelling_room : spelling_verdict image points (length before) ≡ accepted → length (word_spelled image points) ≤ length before
  unfolding point_tests
  spelling_room e =
      let t = (spelled_passes image points (length before) e).1 in
      let t9 = passed (eqb (length points % 2) 0 && word_length (numbers points)) 9 _ t in
      let t23 = passed (every (leb 2) (word_spelled image points)) 23 _ t9.1 in
      omega (arith, leb-true (length (numbers points)) (length before) (passed (leb (length (numbers points)) (length before)) 24 accepted t23.1).0, length_spelled image points)

  pub spelling_case : Case (λ k. reply ≡ Spelling.refused k) (after ≡ before) ((reply ≡ Spelling.letters (length (word_spelled image points))) × SpelledOut image points before after) (first_failing (spelling_tests image points (length before)))
  unfolding spelling_reply after_spelling spelling_verdict
  spelling_case = go (first_failing (spelling_tests image points (length before))) refl replies leaves
    where
      go : (v : Verdict) → first_failing (spelling_tests image points (length before)) ≡ v → reply ≡ spelling_after v (length (word_spelled image points)) → after ≡ written_after v (word_spelled image points) before
          → Case (λ k. reply ≡ Spelling.refused k) (after ≡ before) ((reply ≡ Spelling.letters (length (word_spelled image points))) × SpelledOut image points before after) v
      go Verdict.accepted e f g = ((f, (spelling_room e, g)), λ k h. clash (cc))
      go (Verdict.refused k) e f g = (f, λ j h. cc, g, λ w. let h = w.0 in clash (cc))
