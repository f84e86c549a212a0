-- Replies as numbers, for C: the coding loses nothing, 4k + 3 is refused k alone, and what each call replies and leaves goes by its tests as before.
use Prim.Native.Nat.{ℕ, ◌+◌, ◌*◌}
use native.Mathlib.Omega.{arith}
use mathlib.Core.Bool.{Bool, true, false, cond}
use mathlib.Core.Path.{◌≡◌, refl, sym, ap, ap₂, ◌∙◌, subst}
use mathlib.Core.Logic.{inl, inr}
use mathlib.Core.List.{List, [], ◌∷◌, ◌++◌}
use lib.ListN.{length, drop}
use lib.Dec.{leb}
use borrow.Author.Tests.{leb-true, leb-false}
use Rattle.model.specs.Blocks.{sealed_image}
use Rattle.model.specs.Lexicon.{entry, form_length}
use Rattle.model.specs.Query.{Request}
use Rattle.model.specs.Spelling.{word_spelled}
use Rattle.model.specs.Refusals.{Verdict, accepted, first_failing, right_length, image_tests, image_verdict, request_tests, judge_tests, view_tests, spelling_tests}
use Rattle.model.specs.Rows.{Reply, row_count, reply_number}
use Rattle.model.specs.Calls.{Sealing, sealing_reply, after_sealing, all_readings, listing_reply, after_listing}
use Rattle.model.specs.Beside.{Judgement, FormReply, Spelling, judged, viewed, form_reply, spelling_reply, after_spelling}
use Rattle.model.specs.Demand.{Demand3}
use Rattle.written_rules.specs.Judged.{rules_tests, rules_judged}
use Rattle.headwords.specs.Numbers.{verdict_number, sealing_number, judgement_number, form_number, after_form, spelling_number}
use Rattle.headwords.proofs.Replies.{letters_are, form_refused, form_short, form_fits}
use Rattle.demands.specs.Words.{Coding, JudgedSo, JudgedSoNumber, IsReading, KeepsRules, form_letters, FormCopied, SpelledOut}
use Rattle.demands.proofs.Refusing.{Case}
use Rattle.demands.proofs.Calls.{listing_case, sealing_case, check_case, judge_case, rules_case, view_case, spelling_case}

-- the second follows from the first
pub coding : {A : Type 0} (number : A → ℕ) (refused : ℕ → A) → ((k : ℕ) → number (refused k) ≡ 4 * k + 3) → ((a b : A) → number a ≡ number b → a ≡ b) → Coding number refused
coding number refused told apart = record { apart = apart; refused_is = λ a k. (λ e. apart a (refused k) (e ∙ sym (told k)), λ e. ap number e ∙ told k) }

pub listing_coding : Coding reply_number Reply.refused
unfolding reply_number
listing_coding = coding reply_number Reply.refused (λ k. refl) apart
  where
    apart : (a b : Reply) → reply_number a ≡ reply_number b → a ≡ b
    apart (Reply.all m) (Reply.all n) e = ap Reply.all (omega arith)
    apart (Reply.all m) (Reply.more n) e = absurd (omega arith)
    apart (Reply.all m) Reply.none e = absurd (omega arith)
    apart (Reply.all m) (Reply.refused n) e = absurd (omega arith)
    apart (Reply.more m) (Reply.all n) e = absurd (omega arith)
    apart (Reply.more m) (Reply.more n) e = ap Reply.more (omega arith)
    apart (Reply.more m) Reply.none e = absurd (omega arith)
    apart (Reply.more m) (Reply.refused n) e = absurd (omega arith)
    apart Reply.none (Reply.all n) e = absurd (omega arith)
    apart Reply.none (Reply.more n) e = absurd (omega arith)
    apart Reply.none Reply.none e = refl
    apart Reply.none (Reply.refused n) e = absurd (omega arith)
    apart (Reply.refused m) (Reply.all n) e = absurd (omega arith)
    apart (Reply.refused m) (Reply.more n) e = absurd (omega arith)
    apart (Reply.refused m) Reply.none e = absurd (omega arith)
    apart (Reply.refused m) (Reply.refused n) e = ap Reply.refused (omega arith)

pub sealing_coding : Coding sealing_number Sealing.refused
sealing_coding = coding sealing_number Sealing.refused (λ k. refl) apart
  where
    apart : (a b : Sealing) → sealing_number a ≡ sealing_number b → a ≡ b
    apart Sealing.sealed Sealing.sealed e = refl
    apart Sealing.sealed (Sealing.refused n) e = absurd (omega arith)
    apart (Sealing.refused m) Sealing.sealed e = absurd (omega arith)
    apart (Sealing.refused m) (Sealing.refused n) e = ap Sealing.refused (omega arith)

pub check_coding : Coding verdict_number Verdict.refused
check_coding = coding verdict_number Verdict.refused (λ k. refl) apart
  where
    apart : (a b : Verdict) → verdict_number a ≡ verdict_number b → a ≡ b
    apart Verdict.accepted Verdict.accepted e = refl
    apart Verdict.accepted (Verdict.refused n) e = absurd (omega arith)
    apart (Verdict.refused m) Verdict.accepted e = absurd (omega arith)
    apart (Verdict.refused m) (Verdict.refused n) e = ap Verdict.refused (omega arith)

pub judge_coding : Coding judgement_number Judgement.refused
judge_coding = coding judgement_number Judgement.refused (λ k. refl) apart
  where
    apart : (a b : Judgement) → judgement_number a ≡ judgement_number b → a ≡ b
    apart Judgement.holds Judgement.holds e = refl
    apart Judgement.holds Judgement.fails e = absurd (omega arith)
    apart Judgement.holds (Judgement.refused n) e = absurd (omega arith)
    apart Judgement.fails Judgement.holds e = absurd (omega arith)
    apart Judgement.fails Judgement.fails e = refl
    apart Judgement.fails (Judgement.refused n) e = absurd (omega arith)
    apart (Judgement.refused m) Judgement.holds e = absurd (omega arith)
    apart (Judgement.refused m) Judgement.fails e = absurd (omega arith)
    apart (Judgement.refused m) (Judgement.refused n) e = ap Judgement.refused (omega arith)

-- for a buffer of any length
pub form_coding : (room : ℕ) → Coding (form_number room) FormReply.refused
form_coding room = coding (form_number room) FormReply.refused (λ k. refl) apart
  where
    letters : (n : ℕ) (b : Bool) (k : ℕ) → cond b (4 * n + 1) (4 * n + 2) ≡ 4 * k + 3 → ⊥
    letters n true k e = omega arith
    letters n false k e = omega arith

    lengths : (m n : ℕ) (b c : Bool) → cond b (4 * m + 1) (4 * m + 2) ≡ cond c (4 * n + 1) (4 * n + 2) → m ≡ n
    lengths m n true true e = omega arith
    lengths m n true false e = absurd (omega arith)
    lengths m n false true e = absurd (omega arith)
    lengths m n false false e = omega arith

    apart : (a b : FormReply) → form_number room a ≡ form_number room b → a ≡ b
    apart (FormReply.letters m) (FormReply.letters n) e = ap FormReply.letters (lengths m n (leb m room) (leb n room) e)
    apart (FormReply.letters m) (FormReply.refused n) e = absurd (letters m (leb m room) n e)
    apart (FormReply.refused m) (FormReply.letters n) e = absurd (letters n (leb n room) m (sym e))
    apart (FormReply.refused m) (FormReply.refused n) e = ap FormReply.refused (omega arith)

pub spelling_coding : Coding spelling_number Spelling.refused
spelling_coding = coding spelling_number Spelling.refused (λ k. refl) apart
  where
    apart : (a b : Spelling) → spelling_number a ≡ spelling_number b → a ≡ b
    apart (Spelling.letters m) (Spelling.letters n) e = ap Spelling.letters (omega arith)
    apart (Spelling.letters m) (Spelling.refused n) e = absurd (omega arith)
    apart (Spelling.refused m) (Spelling.letters n) e = absurd (omega arith)
    apart (Spelling.refused m) (Spelling.refused n) e = ap Spelling.refused (omega arith)

-- a call whose reply is coded: refused by the same tests, its work by what the reply says
module _ {A : Type 0} (number : A → ℕ) (refused : ℕ → A) (code : Coding number refused) (reply : A) (n : ℕ) (is : n ≡ number reply) (Unchanged Work Work' : Type 0)
    (to : Work → Work') (from : Work' → Work) where
  pub coded_case : (v : Verdict) → Case (λ k. reply ≡ refused k) Unchanged Work v → Case (λ k. n ≡ 4 * k + 3) Unchanged Work' v
  coded_case Verdict.accepted c = (to c.0, λ k e. c.1 k ((code.refused_is reply k).0 (sym is ∙ e)))
  coded_case (Verdict.refused k) c = (is ∙ (code.refused_is reply k).1 c.0, λ j e. c.1 j ((code.refused_is reply j).0 (sym is ∙ e)), c.2, λ w. c.3 (from w))

-- a listing's number stands for a reply
pub listing_number_case : (image : List ℕ) (request : Request) (before after : List ℕ) (n : ℕ) → n ≡ reply_number (listing_reply image request (row_count before)) → after ≡ after_listing image request before
    → Case (λ k. n ≡ 4 * k + 3) (after ≡ before) ((reply : Reply) × (n ≡ reply_number reply) × Demand3 (all_readings image request) reply before after) (first_failing (request_tests image request))
listing_number_case image request before after n replies leaves =
    let reply = listing_reply image request (row_count before) in
    let D : Reply → Type 0 = λ x. Demand3 (all_readings image request) x before after in
    coded_case reply_number Reply.refused listing_coding reply n replies (after ≡ before) (D reply) ((x : Reply) × (n ≡ reply_number x) × D x)
    (λ d. (reply, replies, d))
    (λ w. subst D (listing_coding.apart w.0 reply (sym w.1 ∙ replies)) w.2)
    (first_failing (request_tests image request))
    (listing_case (record { replies = refl; leaves = leaves }))

pub sealing_number_case : (image after : List ℕ) (n : ℕ) → n ≡ sealing_number (sealing_reply image) → after ≡ after_sealing image
    → Case (λ k. n ≡ 4 * k + 3) (after ≡ image) ((n ≡ 1) × (after ≡ sealed_image image)) (first_failing ((1, right_length image) ∷ []))
sealing_number_case image after n replies leaves =
    coded_case sealing_number Sealing.refused sealing_coding (sealing_reply image) n replies (after ≡ image) ((sealing_reply image ≡ Sealing.sealed) × (after ≡ sealed_image image)) ((n ≡ 1) × (after ≡ sealed_image image))
    (λ w. (replies ∙ ap sealing_number w.0, w.1))
    (λ w. (sealing_coding.apart (sealing_reply image) Sealing.sealed (sym replies ∙ w.0), w.1))
    (first_failing ((1, right_length image) ∷ []))
    (sealing_case image after (sealing_reply image) refl leaves)

pub check_number_case : (image : List ℕ) (n : ℕ) → n ≡ verdict_number (image_verdict image) → Case (λ k. n ≡ 4 * k + 3) Unit (n ≡ 1) (first_failing (image_tests image))
check_number_case image n replies =
    coded_case verdict_number Verdict.refused check_coding (image_verdict image) n replies Unit (image_verdict image ≡ accepted) (n ≡ 1)
    (λ w. replies ∙ ap verdict_number w)
    (λ w. check_coding.apart (image_verdict image) accepted (sym replies ∙ w))
    (first_failing (image_tests image))
    (check_case image (image_verdict image) refl)

-- the calls that judge
module _ (v : Verdict) (So : Type 0) (reply : Judgement) (n : ℕ) where
  pub judgement_number_case : n ≡ judgement_number reply → Case (λ k. reply ≡ Judgement.refused k) Unit (JudgedSo So reply) v → Case (λ k. n ≡ 4 * k + 3) Unit (JudgedSoNumber So n) v
  judgement_number_case replies c = coded_case judgement_number Judgement.refused judge_coding reply n replies Unit (JudgedSo So reply) (JudgedSoNumber So n) to from v c
    where
      to : JudgedSo So reply → JudgedSoNumber So n
      to (inl w) = inl (replies ∙ ap judgement_number w.0, w.1)
      to (inr w) = inr (replies ∙ ap judgement_number w.0, w.1)

      from : JudgedSoNumber So n → JudgedSo So reply
      from (inl w) = inl (judge_coding.apart reply Judgement.holds (sym replies ∙ w.0), w.1)
      from (inr w) = inr (judge_coding.apart reply Judgement.fails (sym replies ∙ w.0), w.1)

pub judge_number_case : (image path pairing : List ℕ) (n : ℕ) → n ≡ judgement_number (judged image path pairing) → Case (λ k. n ≡ 4 * k + 3) Unit (JudgedSoNumber (IsReading image path pairing) n) (first_failing (judge_tests image path pairing))
judge_number_case image path pairing n e =
    judgement_number_case (first_failing (judge_tests image path pairing)) (IsReading image path pairing) (judged image path pairing) n e (judge_case image path pairing (judged image path pairing) refl)

pub rules_number_case : (image pairing text : List ℕ) (n : ℕ) → n ≡ judgement_number (rules_judged image pairing text) → Case (λ k. n ≡ 4 * k + 3) Unit (JudgedSoNumber (KeepsRules image pairing text) n) (first_failing (rules_tests image pairing text))
rules_number_case image pairing text n e =
    judgement_number_case (first_failing (rules_tests image pairing text)) (KeepsRules image pairing text) (rules_judged image pairing text) n e (rules_case image pairing text (rules_judged image pairing text) refl)

-- the form's letters in the lent buffer
module _ (image : List ℕ) (e : ℕ) (before after : List ℕ) (n : ℕ) where
  pub form_number_case : n ≡ form_number (length before) (form_reply image e) → after ≡ after_form (viewed image e) before → Case (λ k. n ≡ 4 * k + 3) (after ≡ before) (FormCopied image e before after n) (first_failing (view_tests image e))
  form_number_case replies leaves = go (first_failing (view_tests image e)) (view_case image e (form_reply image e) (viewed image e) refl refl)
    where
      size : ℕ
      size = form_length (entry image e)

      not_copied : (k : ℕ) → n ≡ 4 * k + 3 → FormCopied image e before after n → ⊥
      not_copied k f (inl w) = omega (arith, w.1)
      not_copied k f (inr w) = omega (arith, w.1)

      copied : form_reply image e ≡ FormReply.letters size → viewed image e ≡ form_letters image e → (b : Bool) → leb size (length before) ≡ b → n ≡ cond b (4 * size + 1) (4 * size + 2) → FormCopied image e before after n
      copied f g true h i =
          let m = leb-true size (length before) h in
          inl (m, i, leaves ∙ sym (form_fits image e before size f m) ∙ ap₂ (λ (l : List ℕ) (k : ℕ). l ++ drop k before) g (letters_are image e before size f))
      copied f g false h i = let m = leb-false size (length before) h in inr (m, i, leaves ∙ sym (form_short image e before size f m))

      go : (v : Verdict) → Case (λ k. (form_reply image e ≡ FormReply.refused k) × (viewed image e ≡ [])) Unit ((form_reply image e ≡ FormReply.letters size) × (viewed image e ≡ form_letters image e)) v
          → Case (λ k. n ≡ 4 * k + 3) (after ≡ before) (FormCopied image e before after n) v
      go Verdict.accepted c =
          let w = copied c.0.0 c.0.1 (leb size (length before)) refl (replies ∙ ap (form_number (length before)) c.0.0) in
          (w, λ k f. not_copied k f w)
      go (Verdict.refused k) c =
          let f = replies ∙ ap (form_number (length before)) c.0.0 in
          (f, λ j g. omega arith, leaves ∙ sym (form_refused image e before k c.0.0), not_copied k f)

module _ (image points before after : List ℕ) (n : ℕ) where
  pub spelling_number_case : n ≡ spelling_number (spelling_reply image points (length before)) → after ≡ after_spelling image points before
      → Case (λ k. n ≡ 4 * k + 3) (after ≡ before) ((n ≡ 4 * length (word_spelled image points) + 1) × SpelledOut image points before after) (first_failing (spelling_tests image points (length before)))
  spelling_number_case replies leaves =
      let reply = spelling_reply image points (length before) in
      let size = length (word_spelled image points) in
      coded_case spelling_number Spelling.refused spelling_coding reply n replies (after ≡ before) ((reply ≡ Spelling.letters size) × SpelledOut image points before after) ((n ≡ 4 * size + 1) × SpelledOut image points before after)
      (λ w. (replies ∙ ap spelling_number w.0, w.1))
      (λ w. (spelling_coding.apart reply (Spelling.letters size) (sym replies ∙ w.0), w.1))
      (first_failing (spelling_tests image points (length before)))
      (spelling_case image points before after reply refl leaves)
