-- The converter: what it replies and leaves, by the verdict of its tests, from Rattle and from C; and what its work is.
use Prim.Native.Nat.{ℕ, ◌+◌, ◌*◌, ◌<◌, ◌≤◌}
use native.Mathlib.Omega.{arith}
use mathlib.Core.Path.{◌≡◌, refl, sym, ap, ◌∙◌, subst}
use mathlib.Core.List.{List, [], ◌∷◌}
use lib.ListN.{length}
use lib.Dec.{T, leb, eqb}
use borrow.Author.Tests.{leb-true}
use Rattle.model.specs.Lists.{byte}
use Rattle.model.specs.Blocks.{header}
use Rattle.model.specs.Refusals.{Verdict, accepted, unless, first_failing, format_tests, image_tests, image_verdict}
use Rattle.model.proofs.Booleans.{of_true}
use Rattle.model.proofs.Tests.{clash, passed, tests_append, tests_refused}
use Rattle.conversion.specs.Conversion.{Conversion, conversion_after, target_after, converted_image, converted_blocks, one_ways, conversion_tests, conversion_reply, after_conversion}
use Rattle.conversion.proofs.Converted.{passing_of, converted_accepted}
use Rattle.conversion.proofs.Back.{rows_alike, bytes_alike, back_converts}
use Rattle.headwords.specs.Numbers.{conversion_number}
use Rattle.demands.specs.Words.{Coding, InOtherForm, ConvertedTo}
use Rattle.demands.proofs.Refusing.{Case, InTable}
use Rattle.demands.proofs.Numbers.{coding, coded_case}

pub conversion_table : (image : List ℕ) (room : ℕ) → T (InTable (conversion_tests image room))
unfolding conversion_tests format_tests image_tests
conversion_table image room = tt

-- what the tests ask of an image, where they pass
pub record Convertible (image : List ℕ) : Type 0 where
  pub ok : image_verdict image ≡ accepted
  pub fifteen : T (one_ways image)
  pub sixteen : converted_blocks image ≤ 128

pub convertible : (image : List ℕ) (room : ℕ) → first_failing (conversion_tests image room) ≡ accepted → Convertible image
unfolding conversion_tests image_verdict
convertible image room e =
    let t = (tests_append (image_tests image) ((15, one_ways image) ∷ (16, leb (converted_blocks image) 128) ∷ (17, eqb room (512 * converted_blocks image)) ∷ [])).0 e in
    let last = unless (eqb room (512 * converted_blocks image)) 17 accepted in
    let a = passed (one_ways image) 15 (unless (leb (converted_blocks image) 128) 16 last) t.1 in
    let b = passed (leb (converted_blocks image) 128) 16 last a.1 in
    record { ok = t.0; fifteen = of_true (one_ways image) a.0; sixteen = leb-true (converted_blocks image) 128 b.0 }

-- its work
pub in_other_form : (image : List ℕ) → Convertible image → InOtherForm image (converted_image image)
in_other_form image c =
    let t = converted_accepted image (passing_of image c.ok) c.fifteen c.sixteen in
    record {
      accepted_too = t.0;
      form_is = t.1;
      replies_alike = rows_alike image c.ok c.fifteen c.sixteen;
      rows_alike = bytes_alike image c.ok c.fifteen c.sixteen;
    }

module _ (image before after : List ℕ) where
  pub conversion_case : (reply : Conversion) → reply ≡ conversion_reply image (length before) → after ≡ after_conversion image before
      → Case (λ k. reply ≡ Conversion.refused k) (after ≡ before) ((reply ≡ Conversion.converted) × ConvertedTo image after) (first_failing (conversion_tests image (length before)))
  unfolding conversion_reply after_conversion
  conversion_case reply replies leaves = go (first_failing (conversion_tests image (length before))) refl replies leaves
    where
      go : (v : Verdict) → first_failing (conversion_tests image (length before)) ≡ v → reply ≡ conversion_after v → after ≡ target_after v (converted_image image) before
          → Case (λ k. reply ≡ Conversion.refused k) (after ≡ before) ((reply ≡ Conversion.converted) × ConvertedTo image after) v
      go Verdict.accepted t e f = (
        (e, (f, subst (InOtherForm image) (sym f) (in_other_form image (convertible image (length before) t)))),
        λ k g. clash (cc),
      )
      go (Verdict.refused k) t e f = (e, λ j g. cc, f, λ w. let g = w.0 in clash (cc))

pub conversion_coding : Coding conversion_number Conversion.refused
conversion_coding = coding conversion_number Conversion.refused (λ k. refl) apart
  where
    apart : (a b : Conversion) → conversion_number a ≡ conversion_number b → a ≡ b
    apart Conversion.converted Conversion.converted e = refl
    apart Conversion.converted (Conversion.refused n) e = absurd (omega arith)
    apart (Conversion.refused m) Conversion.converted e = absurd (omega arith)
    apart (Conversion.refused m) (Conversion.refused n) e = ap Conversion.refused (omega arith)

pub conversion_number_case : (image before after : List ℕ) (n : ℕ) → n ≡ conversion_number (conversion_reply image (length before)) → after ≡ after_conversion image before
    → Case (λ k. n ≡ 4 * k + 3) (after ≡ before) ((n ≡ 1) × ConvertedTo image after) (first_failing (conversion_tests image (length before)))
conversion_number_case image before after n replies leaves =
    let reply = conversion_reply image (length before) in
    coded_case conversion_number Conversion.refused conversion_coding reply n replies (after ≡ before)
    ((reply ≡ Conversion.converted) × ConvertedTo image after)
    ((n ≡ 1) × ConvertedTo image after)
    (λ w. (replies ∙ ap conversion_number w.0, w.1))
    (λ w. (conversion_coding.apart reply Conversion.converted (sym replies ∙ w.0), w.1))
    (first_failing (conversion_tests image (length before)))
    (conversion_case image before after reply refl leaves)

-- "From 1 to 2 and back gives the same bytes": what was converted from form 1 is converted back, into a target as long as the image
module _ (image before : List ℕ) (replied : conversion_reply image (length before) ≡ Conversion.converted) (first : (header image).form ≡ 1) (small : (i : ℕ) → byte image i < 256) where
  convertible_here : Convertible image
  unfolding conversion_reply
  convertible_here = go (first_failing (conversion_tests image (length before))) refl replied
    where
      go : (v : Verdict) → first_failing (conversion_tests image (length before)) ≡ v → conversion_after v ≡ Conversion.converted → Convertible image
      go Verdict.accepted t e = convertible image (length before) t
      go (Verdict.refused k) t e = clash (cc)

  left_here : after_conversion image before ≡ converted_image image
  unfolding conversion_reply after_conversion
  left_here = go (first_failing (conversion_tests image (length before))) replied
    where
      go : (v : Verdict) → conversion_after v ≡ Conversion.converted → target_after v (converted_image image) before ≡ converted_image image
      go Verdict.accepted e = refl
      go (Verdict.refused k) e = clash (cc)

  pub there_and_back : (target : List ℕ) → length target ≡ length image
      → let other = after_conversion image before in (conversion_reply other (length target) ≡ Conversion.converted) × (after_conversion other target ≡ image)
  there_and_back target long =
      let c = convertible_here in
      let b = back_converts image c.ok c.fifteen c.sixteen first small in (
        ap (λ (i : List ℕ). conversion_reply i (length target)) left_here ∙ ap (conversion_reply (converted_image image)) long ∙ b.0,
        ap (λ (i : List ℕ). after_conversion i target) left_here ∙ b.1 target long,
      )

-- the image's tests come first
pub conversion_refused : (image : List ℕ) (room k : ℕ) → image_verdict image ≡ Verdict.refused k → first_failing (conversion_tests image room) ≡ Verdict.refused k
unfolding conversion_tests image_verdict
conversion_refused image room k v = tests_refused (image_tests image) _ k v
