-- The converter's reply and its target, by the first test that fails.
use Prim.Native.Nat.{ℕ, ◌*◌, ◌<◌, ◌≤◌}
use mathlib.Core.Bool.{true, false}
use mathlib.Core.Path.{◌≡◌, refl, sym, ap, ◌∙◌}
use mathlib.Core.List.{List}
use lib.ListN.{length}
use lib.Dec.{leb, eqb}
use borrow.Author.Tests.{lt-leb, le-leb, ne_eqb, eq-eqb}
use Rattle.model.specs.Refusals.{Verdict, accepted, refused, unless, first_failing, image_tests, image_verdict}
use Rattle.model.proofs.Tests.{tests_refused, tests_accepted}
use Rattle.conversion.specs.Conversion.{conversion_after, target_after, conversion_tests, conversion_reply, after_conversion, converted_image, converted_blocks, one_ways}

module _ (image target : List ℕ) where
  abbrev Answered : Verdict → List ℕ → Type 0
  Answered w new = (conversion_after w ≡ conversion_reply image (length target)) × (new ≡ after_conversion image target)

  by_verdict : (w : Verdict) → first_failing (conversion_tests image (length target)) ≡ w → Answered w (target_after w (converted_image image) target)
  unfolding conversion_reply after_conversion
  by_verdict w e = (ap conversion_after (sym e), ap (λ (w : Verdict). target_after w (converted_image image) target) (sym e))

  pub refused_image : (k : ℕ) → image_verdict image ≡ refused k → Answered (refused k) target
  unfolding conversion_tests image_verdict
  refused_image k e = by_verdict (refused k) (tests_refused (image_tests image) _ k e)

  module _ (ok : image_verdict image ≡ accepted) where
    late : first_failing (conversion_tests image (length target)) ≡ unless (one_ways image) 15
        (unless (leb (converted_blocks image) 128) 16 (unless (eqb (length target) (512 * converted_blocks image)) 17 accepted))
    unfolding conversion_tests image_verdict
    late = tests_accepted (image_tests image) _ ok

    pub refused_15 : one_ways image ≡ false → Answered (refused 15) target
    refused_15 a = by_verdict (refused 15) (late ∙ rw a refl)

    pub refused_16 : one_ways image ≡ true → 128 < converted_blocks image → Answered (refused 16) target
    refused_16 a b = by_verdict (refused 16) (late ∙ rw (a, lt-leb (converted_blocks image) 128 b) refl)

    pub refused_17 : one_ways image ≡ true → converted_blocks image ≤ 128 → (length target ≡ 512 * converted_blocks image → ⊥) → Answered (refused 17) target
    refused_17 a b d = by_verdict (refused 17) (late ∙ rw (a, le-leb (converted_blocks image) 128 b, ne_eqb (length target) (512 * converted_blocks image) d) refl)

    pub all_passed : one_ways image ≡ true → converted_blocks image ≤ 128 → length target ≡ 512 * converted_blocks image → Answered accepted (converted_image image)
    all_passed a b d = by_verdict accepted (late ∙ rw (a, le-leb (converted_blocks image) 128 b, eq-eqb (length target) (512 * converted_blocks image) d) refl)
