-- The spelling call's reply and bytes, by the first test that fails; how long a word it hands over.
use Prim.Native.Nat.{ℕ, ◌%◌, ◌/◌, ◌≤◌}
use native.Mathlib.Omega.{arith}
use mathlib.Core.Bool.{Bool, true, false, ◌&&◌}
use mathlib.Core.Path.{◌≡◌, refl, sym, ap, ◌∙◌}
use mathlib.Core.List.{List}
use lib.ListN.{length}
use lib.Dec.{leb, eqb}
use Rattle.model.specs.Lists.{every, within, where_room, numbers}
use Rattle.model.specs.Readings.{word_length}
use Rattle.model.specs.Spelling.{word_spelled}
use Rattle.model.specs.Refusals.{Verdict, accepted, refused, unless, first_failing, image_tests, image_verdict, word_tests, point_tests, spelling_tests}
use Rattle.model.specs.Beside.{Spelling, spelling_after, written_after, spelling_verdict, spelling_reply, after_spelling}
use Rattle.model.proofs.Booleans.{of_true, within_out}
use Rattle.model.proofs.Lists.{length_numbers}
use Rattle.model.proofs.Spelling.{length_spelled, spelled_admissible}
use Rattle.model.proofs.Tests.{clash, passed, tests_append, tests_refused, tests_accepted}
use Rattle.spelling.specs.Answers.{handed_over}

module _ (image points out : List ℕ) where
  abbrev word : List ℕ
  word = word_spelled image points

  -- what the call replies, and what it leaves
  abbrev pub Replies : Spelling → List ℕ → Type 0
  Replies reply after = (reply ≡ spelling_reply image points (length out)) × (after ≡ after_spelling image points out)

  by_verdict : (v : Verdict) → spelling_verdict image points (length out) ≡ v → Replies (spelling_after v (length word)) (written_after v word out)
  unfolding spelling_reply after_spelling
  by_verdict v e = (ap (λ (x : Verdict). spelling_after x (length word)) (sym e), ap (λ (x : Verdict). written_after x word out) (sym e))

  -- the image check comes first
  pub image_refused : (k : ℕ) → image_verdict image ≡ refused k → Replies (Spelling.refused k) out
  unfolding spelling_verdict spelling_tests image_verdict
  image_refused k e = by_verdict (refused k) (tests_refused (image_tests image) (point_tests image points (length out)) k e)

  -- tests 9 and 23 as the code makes them
  abbrev pub test9 : Bool
  test9 = eqb (length points % 2) 0 && within 1 32 (length points / 2)

  abbrev pub test23 : Bool
  test23 = every (leb 2) word

  module _ (accepts : image_verdict image ≡ accepted) where
    own_verdict : spelling_verdict image points (length out) ≡ unless test9 9 (unless test23 23 (unless (leb (length word) (length out)) 24 accepted))
    unfolding spelling_verdict spelling_tests image_verdict point_tests
    own_verdict =
        tests_accepted (image_tests image) (point_tests image points (length out)) accepts
        ∙ ap (λ (n : ℕ). unless (eqb (length points % 2) 0 && within 1 32 n) 9 (unless test23 23 (unless (leb (length (numbers points)) (length out)) 24 accepted))) (length_numbers points)
        ∙ ap (λ (n : ℕ). unless test9 9 (unless test23 23 (unless (leb n (length out)) 24 accepted))) (sym (length_spelled image points))

    pub refused_9 : test9 ≡ false → Replies (Spelling.refused 9) out
    refused_9 e = by_verdict (refused 9) (own_verdict ∙ rw e refl)

    pub refused_23 : test9 ≡ true → test23 ≡ false → Replies (Spelling.refused 23) out
    refused_23 e f = by_verdict (refused 23) (own_verdict ∙ rw (e, f) refl)

    pub handed_over_lem : test9 ≡ true → test23 ≡ true → Replies (handed_over (length word) (length out)) (where_room word out)
    handed_over_lem e f = go (leb (length word) (length out)) refl
      where
        go : (b : Bool) → leb (length word) (length out) ≡ b → Replies (handed_over (length word) (length out)) (where_room word out)
        go true h = rw h (by_verdict accepted (own_verdict ∙ rw (e, f, h) refl))
        go false h = rw h (by_verdict (refused 24) (own_verdict ∙ rw (e, f, h) refl))

-- where letters are replied, every test has passed, and the word has so many; that is at most 32
module _ (image points : List ℕ) (room : ℕ) where
  pub spelled_passes : spelling_verdict image points room ≡ accepted → (image_verdict image ≡ accepted) × (first_failing (point_tests image points room) ≡ accepted)
  unfolding spelling_verdict spelling_tests image_verdict
  spelled_passes e = (tests_append (image_tests image) (point_tests image points room)).0 e

  module _ (n : ℕ) (replied : spelling_reply image points room ≡ Spelling.letters n) where
    pub spelled_when : (spelling_verdict image points room ≡ accepted) × (length (word_spelled image points) ≡ n)
    unfolding spelling_reply
    spelled_when = go (spelling_verdict image points room) refl replied
      where
        go : (v : Verdict) → spelling_verdict image points room ≡ v → spelling_after v (length (word_spelled image points)) ≡ Spelling.letters n → (spelling_verdict image points room ≡ accepted) × (length (word_spelled image points) ≡ n)
        go Verdict.accepted e f = (e, cc)
        go (Verdict.refused k) e f = clash (cc)

    -- so that the word passes 9 and 10
    pub word_taken : first_failing (word_tests image (word_spelled image points)) ≡ accepted
    word_taken = spelled_admissible image points room (spelled_passes spelled_when.0).1

    pub spelled_few : n ≤ 32
    unfolding word_tests
    spelled_few =
        let w = word_spelled image points in
        omega (arith, (within_out 1 32 (length w) (of_true (word_length w) (passed (word_length w) 9 _ word_taken).0)).1, spelled_when.1)
