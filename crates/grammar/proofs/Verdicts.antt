-- The verdict by the first test that fails, and what an accepted image has passed.
use Prim.Native.Nat.{ℕ, ◌+◌, ◌<◌, ◌≤◌}
use mathlib.Core.Bool.{Bool, true, false, ◌&&◌}
use mathlib.Core.Path.{◌≡◌, refl, sym, ap, ap₂, ◌∙◌, subst}
use mathlib.Core.List.{List, [], ◌∷◌}
use lib.ListN.{length, take, drop, length-take, length-drop}
use lib.Dec.{T, ltb}
use borrow.Author.Tests.{lt-ltb, le-ltb, ltb-true, ltb-false}
use native.Mathlib.Omega.{arith}
use Rattle.model.specs.Blocks.{Header, header, kinds, block_total}
use Rattle.model.specs.Refusals.{Verdict, accepted, refused, unless, first_failing, right_length, right_checks, right_layout, right_letters, right_pairs, right_tables, right_columns, right_entries, right_forms, format_tests, image_tests, image_verdict, view_tests}
use Rattle.model.specs.Lexicon.{entry, form_length}
use Rattle.model.specs.Beside as beside
use Rattle.model.specs.Beside.{form_start, view_after, form_reply_after, viewed, form_reply}
use Rattle.model.proofs.Booleans.{of_true}
use Rattle.model.proofs.Tests.{passed, clash, tests_refused, tests_accepted}
use Rattle.image.specs.Laid.{Limited, Laid}
use Rattle.image.specs.Accepted.{Accepted}
use Rattle.lexicon.proofs.Laws as entries
use Rattle.layout.proofs.Laid.{laid}
use Rattle.grammar.specs.Answers.{tables_verdict, records_verdict, lexicon_verdict}

module _ (image : List ℕ) where
  -- tests 4 to 6
  pub refused_4 : right_letters image ≡ false → refused 4 ≡ records_verdict image
  unfolding records_verdict
  refused_4 e = rw e refl

  pub refused_5 : right_letters image ≡ true → right_pairs image ≡ false → refused 5 ≡ records_verdict image
  unfolding records_verdict
  refused_5 a e = rw (a, e) refl

  pub refused_6 : right_letters image ≡ true → right_pairs image ≡ true → right_tables image ≡ false → refused 6 ≡ records_verdict image
  unfolding records_verdict
  refused_6 a b e = rw (a, b, e) refl

  pub accepted_records : right_letters image ≡ true → right_pairs image ≡ true → right_tables image ≡ true → accepted ≡ records_verdict image
  unfolding records_verdict
  accepted_records a b e = rw (a, b, e) refl

  -- tests 1 to 3 before them
  pub refused_1 : right_length image ≡ false → refused 1 ≡ tables_verdict image
  unfolding tables_verdict
  refused_1 e = rw e refl

  pub refused_2 : right_length image ≡ true → right_checks image ≡ false → refused 2 ≡ tables_verdict image
  unfolding tables_verdict
  refused_2 a e = rw (a, e) refl

  pub refused_3 : right_length image ≡ true → right_checks image ≡ true → right_layout image ≡ false → refused 3 ≡ tables_verdict image
  unfolding tables_verdict
  refused_3 a b e = rw (a, b, e) refl

  pub records_judged : right_length image ≡ true → right_checks image ≡ true → right_layout image ≡ true → records_verdict image ≡ tables_verdict image
  unfolding tables_verdict records_verdict
  records_judged a b c = rw (a, b, c) refl

  -- tests 8 and 14 together, and apart
  pub accepted_lexicon : true ≡ (right_entries image && right_forms image) → accepted ≡ lexicon_verdict image
  unfolding lexicon_verdict
  accepted_lexicon e = go (right_entries image) (right_forms image) e
    where
      go : (x y : Bool) → true ≡ (x && y) → accepted ≡ unless x 8 (unless y 14 accepted)
      go true true e = refl
      go true false e = absurd (subst T e tt)
      go false y e = absurd (subst T e tt)

  pub refused_8 : right_entries image ≡ false → refused 8 ≡ lexicon_verdict image
  unfolding lexicon_verdict
  refused_8 e = rw e refl

  pub refused_14 : false ≡ (right_entries image && right_forms image) → right_entries image ≡ true → refused 14 ≡ lexicon_verdict image
  unfolding lexicon_verdict
  refused_14 e f = sym (ap₂ (λ (x y : Bool). unless x 8 (unless y 14 accepted)) f (sym (e ∙ ap (λ (x : Bool). x && right_forms image) f)))

-- an accepted image has passed each test
pub accepted_image : (image : List ℕ) → image_verdict image ≡ accepted → Accepted image (header image)
unfolding image_verdict image_tests format_tests
accepted_image image e =
    let t1 = passed (right_length image) 1 _ e in
    let t2 = passed (right_checks image) 2 _ t1.1 in
    let t3 = passed (right_layout image) 3 _ t2.1 in
    let t4 = passed (right_letters image) 4 _ t3.1 in
    let t5 = passed (right_pairs image) 5 _ t4.1 in
    let t6 = passed (right_tables image) 6 _ t5.1 in
    let t7 = passed (right_columns image) 7 _ t6.1 in
    let t8 = passed (right_entries image) 8 _ t7.1 in
    record { laid = laid image t1.0 t3.0; pairs_right = t5.0; tables_right = t6.0; columns_right = t7.0; entries_right = t8.0 }

-- test 7 between the two
module _ (image : List ℕ) where
  pub refused_early : (k : ℕ) → tables_verdict image ≡ refused k → refused k ≡ image_verdict image
  unfolding image_verdict image_tests format_tests tables_verdict
  refused_early k e = sym (tests_refused ((1, right_length image) ∷ (2, right_checks image) ∷ (3, right_layout image) ∷ (4, right_letters image) ∷ (5, right_pairs image) ∷ (6, right_tables image) ∷ []) ((7, right_columns image) ∷ (8, right_entries image) ∷ (14, right_forms image) ∷ []) k e)

  module _ (early : tables_verdict image ≡ accepted) where
    pub early_passed : Laid image (header image) × (right_pairs image ≡ true) × (right_tables image ≡ true)
    unfolding tables_verdict
    early_passed =
        let t1 = passed (right_length image) 1 _ early in
        let t2 = passed (right_checks image) 2 _ t1.1 in
        let t3 = passed (right_layout image) 3 _ t2.1 in
        let t4 = passed (right_letters image) 4 _ t3.1 in
        let t5 = passed (right_pairs image) 5 _ t4.1 in
        (laid image t1.0 t3.0, t5.0, (passed (right_tables image) 6 _ t5.1).0)

    late : image_verdict image ≡ unless (right_columns image) 7 (lexicon_verdict image)
    unfolding image_verdict image_tests format_tests tables_verdict lexicon_verdict
    late = tests_accepted ((1, right_length image) ∷ (2, right_checks image) ∷ (3, right_layout image) ∷ (4, right_letters image) ∷ (5, right_pairs image) ∷ (6, right_tables image) ∷ []) ((7, right_columns image) ∷ (8, right_entries image) ∷ (14, right_forms image) ∷ []) early

    pub refused_7 : right_columns image ≡ false → refused 7 ≡ image_verdict image
    refused_7 e = sym (late ∙ ap (λ (b : Bool). unless b 7 (lexicon_verdict image)) e)

    pub lexicon_judged : right_columns image ≡ true → lexicon_verdict image ≡ image_verdict image
    lexicon_judged e = sym (late ∙ ap (λ (b : Bool). unless b 7 (lexicon_verdict image)) e)

pub laid_some : (image : List ℕ) (h : Header) → Laid image h → 512 ≤ length image
unfolding kinds block_total
laid_some image h l = omega (arith, l.whole)

-- the entry view and its companion, by the verdict and by whether the entry is there
module _ (image : List ℕ) (e : ℕ) where
  view_refused : (k : ℕ) → image_verdict image ≡ refused k → first_failing (view_tests image e) ≡ refused k
  unfolding view_tests image_verdict
  view_refused k f = tests_refused (image_tests image) ((12, ltb e (header image).entries) ∷ []) k f

  view_accepted : image_verdict image ≡ accepted → first_failing (view_tests image e) ≡ unless (ltb e (header image).entries) 12 accepted
  unfolding view_tests image_verdict
  view_accepted f = tests_accepted (image_tests image) ((12, ltb e (header image).entries) ∷ []) f

  pub form_refused : (k : ℕ) → image_verdict image ≡ refused k → beside.FormReply.refused k ≡ form_reply image e
  unfolding form_reply
  form_refused k f = rw (view_refused k f) refl

  pub form_missing : image_verdict image ≡ accepted → (header image).entries ≤ e → beside.FormReply.refused 12 ≡ form_reply image e
  unfolding form_reply
  form_missing f h = rw (view_accepted f, le-ltb e (header image).entries h) refl

  pub form_there : image_verdict image ≡ accepted → e < (header image).entries → beside.FormReply.letters (form_length (entry image e)) ≡ form_reply image e
  unfolding form_reply
  form_there f h = rw (view_accepted f, lt-ltb e (header image).entries h) refl

  -- the first n letters of the form's part; the view and its companion after a verdict
  abbrev letters : ℕ → List ℕ
  letters n = take n (drop (form_start image e) image)

  abbrev view : Verdict → List ℕ
  view v = view_after v (letters (form_length (entry image e)))

  abbrev reply : Verdict → beside.FormReply
  reply v = form_reply_after v (form_length (entry image e))

  -- the two agree
  none_viewed : (v : Verdict) (k : ℕ) → reply v ≡ beside.FormReply.refused k → view v ≡ []
  none_viewed Verdict.accepted k f = clash (cc)
  none_viewed (Verdict.refused j) k f = refl

  letters_viewed : (v : Verdict) (n : ℕ) → reply v ≡ beside.FormReply.letters n → view v ≡ letters n
  letters_viewed Verdict.accepted n f = let m : form_length (entry image e) ≡ n = cc in ap letters m
  letters_viewed (Verdict.refused j) n f = clash (cc)

  pub view_none : (k : ℕ) → form_reply image e ≡ beside.FormReply.refused k → [] ≡ viewed image e
  unfolding viewed form_reply
  view_none k f = sym (none_viewed (first_failing (view_tests image e)) k f)

  pub view_letters : (n : ℕ) → form_reply image e ≡ beside.FormReply.letters n → take n (drop (form_start image e) image) ≡ viewed image e
  unfolding viewed form_reply
  view_letters n f = sym (letters_viewed (first_failing (view_tests image e)) n f)

-- what a companion that tells a length has shown
pub record Viewed (image : List ℕ) (e n : ℕ) : Type 0 where
  pub some : 512 ≤ length image
  pub limits : Limited (header image)
  pub entry_there : e < (header image).entries
  pub inside : form_start image e + n ≤ length image
  pub few : n ≤ 12

module _ (image : List ℕ) (e n : ℕ) where
  there_of : (v : Verdict) → image_verdict image ≡ v → (b : Bool) → ltb e (header image).entries ≡ b → form_reply image e ≡ beside.FormReply.letters n → (v ≡ accepted) × (b ≡ true)
  there_of Verdict.accepted a true t f = (refl, refl)
  there_of Verdict.accepted a false t f = let g = form_missing image e a (ltb-false e (header image).entries t) in clash (cc)
  there_of (Verdict.refused k) a b t f = let g = form_refused image e k a in clash (cc)

  pub viewed_there : form_reply image e ≡ beside.FormReply.letters n → Viewed image e n
  viewed_there f =
      let h = header image in
      let t = there_of (image_verdict image) refl (ltb e h.entries) refl f in
      let a = accepted_image image t.0 in
      let inside = ltb-true e h.entries t.1 in
      let g = form_there image e t.0 inside in
      let m : form_length (entry image e) ≡ n = cc in
      let short = entries.form_short image h a.laid (of_true (right_entries image) a.entries_right) e inside in
      record { some = laid_some image h a.laid; limits = a.laid.limits; entry_there = inside; inside = omega (arith, entries.form_inside image h a.laid e inside short); few = omega (arith, short, m) }

-- the view and its companion agree: the letters of the length told, and none after a refusal
pub record Agree (reply : beside.FormReply) (letters : List ℕ) : Type 0 where
  pub told : (n : ℕ) → reply ≡ beside.FormReply.letters n → length letters ≡ n
  pub refused_none : (k : ℕ) → reply ≡ beside.FormReply.refused k → letters ≡ []

pub view_agrees : (image : List ℕ) (e : ℕ) → Agree (form_reply image e) (viewed image e)
view_agrees image e = record {
  told = λ n f. let v = viewed_there image e n f in ap length (sym (view_letters image e n f)) ∙ omega (arith, v.inside, length-take n (drop (form_start image e) image), length-drop (form_start image e) image);
  refused_none = λ k f. sym (view_none image e k f);
}
