-- The call's reply and bytes by the image's verdict: a refusal and both buffers as they were, or every word's place and share.
use Prim.Native.Nat.{ℕ, ◌*◌, ◌/◌, ◌≤◌, min}
use native.Mathlib.Nat.{mul-zero}
use native.Mathlib.Omega.{arith}
use mathlib.Core.Path.{◌≡◌, refl, sym, ap, ◌∙◌}
use mathlib.Core.List.{List}
use lib.ListN.{length, drop}
use Rattle.model.specs.Refusals.{Verdict, accepted, refused, image_verdict}
use Rattle.model.proofs.Tests.{clash}
use Rattle.shares.specs.Words.{ManyReply, place_at, share_at, laid_over, many_after, bytes_after, words_asked, share_rows, many_reply, after_replies, after_rows}

module _ (image words replies rows : List ℕ) where
  -- what the call replies, and what it leaves
  abbrev pub Answers : ManyReply → List ℕ → List ℕ → Type 0
  Answers reply places shares = (reply ≡ many_reply image words replies) × ((places ≡ after_replies image words replies rows) × (shares ≡ after_rows image words replies rows))

  abbrev n : ℕ
  n = words_asked image words replies

  abbrev share : ℕ
  share = share_rows image words replies rows

  by_verdict : (v : Verdict) → image_verdict image ≡ v → Answers (many_after v n) (bytes_after v (laid_over 8 n (place_at image words share) replies) replies) (bytes_after v (laid_over (116 * share) n (share_at image words share rows) rows) rows)
  unfolding many_reply after_replies after_rows
  by_verdict v e = rw e (refl, (refl, refl))

  pub refused_whole : (k : ℕ) → image_verdict image ≡ refused k → Answers (ManyReply.refused k) replies rows
  refused_whole k e = by_verdict (refused k) e

  module _ (a : image_verdict image ≡ accepted) where
    pub answered_reply : ManyReply.words n ≡ many_reply image words replies
    answered_reply = (by_verdict accepted a).0

    pub answered_places : laid_over 8 n (place_at image words share) replies ≡ after_replies image words replies rows
    answered_places = (by_verdict accepted a).1.0

    pub answered_shares : laid_over (116 * share) n (share_at image words share rows) rows ≡ after_rows image words replies rows
    answered_shares = (by_verdict accepted a).1.1

    -- no word at all
    pub no_places : n ≡ 0 → replies ≡ after_replies image words replies rows
    no_places e = ap (λ (k : ℕ). laid_over 8 k (place_at image words share) replies) (sym e) ∙ answered_places

    pub no_shares : n ≡ 0 → rows ≡ after_rows image words replies rows
    no_shares e = ap (λ (m : ℕ). drop m rows) (sym (mul-zero (116 * share))) ∙ ap (λ (k : ℕ). laid_over (116 * share) k (share_at image words share rows) rows) (sym e) ∙ answered_shares

-- as many words as both have room for
pub count_inside : (words replies : ℕ) → (33 * min (words / 33) (replies / 8) ≤ words) × (8 * min (words / 33) (replies / 8) ≤ replies)
count_inside words replies = (omega arith, omega arith)

-- where words are answered, every test of the image has passed, and there are as many as both have room for
module _ (image words replies : List ℕ) (n : ℕ) (replied : many_reply image words replies ≡ ManyReply.words n) where
  pub answered_when : (image_verdict image ≡ accepted) × (n ≡ words_asked image words replies)
  unfolding many_reply
  answered_when = go (image_verdict image) refl replied
    where
      go : (v : Verdict) → image_verdict image ≡ v → many_after v (words_asked image words replies) ≡ ManyReply.words n → (image_verdict image ≡ accepted) × (n ≡ words_asked image words replies)
      go Verdict.accepted e f = (e, cc)
      go (Verdict.refused k) e f = clash (cc)

  pub answered_few : 8 * n ≤ length replies
  answered_few = omega (arith, (count_inside (length words) (length replies)).1, answered_when.1)
