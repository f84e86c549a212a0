-- What a call leaves at each place and in each share: the reply's eight bytes, and what plain analysis leaves.
use Prim.Native.Nat.{ℕ, zero, suc, ◌+◌, ◌*◌, ◌/◌, ◌%◌, ◌^◌, ◌<◌, ◌≤◌}
use native.Mathlib.Omega.{arith}
use mathlib.Core.Bool.{Bool, true, false, cond}
use mathlib.Core.Path.{◌≡◌, refl, sym, ap, ◌∙◌}
use mathlib.Core.List.{List, Memᴰ}
use lib.ListN.{length, drop, length-take}
use lib.Seq.{drop_at}
use lib.Dec.{leb}
use Rattle.model.specs.Lists.{below, flat_map, part, byte}
use Rattle.model.specs.Query.{Request, analysis}
use Rattle.model.specs.Refusals.{Verdict, accepted, image_verdict}
use Rattle.model.specs.Rows.{row_count}
use Rattle.model.specs.Calls.{rows_after, request_verdict, all_readings, listing_rows, after_listing}
use Rattle.model.proofs.Lists.{length_below, below_from, get_d_below}
use Rattle.model.proofs.Parts.{length_parts, part_at}
use Rattle.model.proofs.Rows.{length_filled}
use Rattle.shares.specs.Words.{word_of, low_first, after_record, place_at, share_at, laid_over, words_asked, share_rows, after_replies, after_rows}
use Rattle.shares.proofs.Over.{part_inside, part_long, shares_inside}
use Rattle.shares.proofs.Replies.{answered_places, answered_shares}

-- eight bytes tell a number that fits in them
pub low_apart : (k x y : ℕ) → x < 256 ^ k → y < 256 ^ k → low_first k x ≡ low_first k y → x ≡ y
low_apart zero x y h j e = omega arith
low_apart (suc k) x y h j e =
    let front : x % 256 ≡ y % 256 = ap (λ (l : List ℕ). byte l 0) e in
    let rest : x / 256 ≡ y / 256 = low_apart k (x / 256) (y / 256) (omega arith) (omega arith) (ap (drop 1) e) in
    omega arith

-- a listing leaves the buffer as long as it was
pub listing_long : (image : List ℕ) (request : Request) (buffer : List ℕ) → length (after_listing image request buffer) ≡ length buffer
unfolding after_listing listing_rows
listing_long image request buffer = length_filled buffer (rows_after (request_verdict image request) (row_count buffer) (all_readings image request)) (few (request_verdict image request))
  where
    few : (v : Verdict) → length (rows_after v (row_count buffer) (all_readings image request)) ≤ row_count buffer
    few Verdict.accepted = omega (arith, length-take (row_count buffer) (all_readings image request))
    few (Verdict.refused k) = omega arith

pub share_long : (image asked share : List ℕ) → length (after_record image asked share) ≡ length share
unfolding after_record
share_long image asked share = go (leb (byte asked 0) 32)
  where
    go : (b : Bool) → length (cond b (after_listing image (analysis (word_of asked)) share) share) ≡ length share
    go true = listing_long image (analysis (word_of asked)) share
    go false = refl

-- n parts of width w, and what is past them
module _ (w n : ℕ) (f : ℕ → List ℕ) (buffer : List ℕ) (wide : (i : ℕ) → i < n → length (f i) ≡ w) where
  each : (i : ℕ) → Memᴰ i (below n) → length (f i) ≡ w
  each i m = wide i (below_from n i m)

  pub part_laid : (i : ℕ) → i < n → part w (laid_over w n f buffer) i ≡ f i
  part_laid i h = part_at w f (below n) each (drop (w * n) buffer) i 0 (omega (arith, length_below n)) ∙ ap f (get_d_below n i h)

  pub past_laid : drop (w * n) (laid_over w n f buffer) ≡ drop (w * n) buffer
  past_laid = drop_at (flat_map f (below n)) (drop (w * n) buffer) (w * n) (length_parts w f (below n) each ∙ ap (λ (k : ℕ). w * k) (length_below n))

module _ (image words replies rows : List ℕ) (accepts : image_verdict image ≡ accepted) where
  abbrev n : ℕ
  n = words_asked image words replies

  abbrev share : ℕ
  share = share_rows image words replies rows

  pub share_inside : (i : ℕ) → i < n → 116 * share * i + 116 * share ≤ length rows
  share_inside i h = part_inside (116 * share) (share_at image words share rows) rows i n h (shares_inside n (length rows))

  share_wide : (i : ℕ) → i < n → length (share_at image words share rows i) ≡ 116 * share
  share_wide i h = share_long image (part 33 words i) (part (116 * share) rows i) ∙ part_long (116 * share) i rows (share_inside i h)

  module _ (i : ℕ) (h : i < n) where
    pub place_left : part 8 (after_replies image words replies rows) i ≡ place_at image words share i
    place_left = ap (λ (l : List ℕ). part 8 l i) (sym (answered_places image words replies rows accepts)) ∙ part_laid 8 n (place_at image words share) replies (λ j k. refl) i h

    pub share_left : part (116 * share) (after_rows image words replies rows) i ≡ share_at image words share rows i
    share_left = ap (λ (l : List ℕ). part (116 * share) l i) (sym (answered_shares image words replies rows accepts)) ∙ part_laid (116 * share) n (share_at image words share rows) rows share_wide i h

  pub places_past : drop (8 * n) (after_replies image words replies rows) ≡ drop (8 * n) replies
  places_past = ap (drop (8 * n)) (sym (answered_places image words replies rows accepts)) ∙ past_laid 8 n (place_at image words share) replies (λ j k. refl)

  pub shares_past : drop (116 * share * n) (after_rows image words replies rows) ≡ drop (116 * share * n) rows
  shares_past = ap (drop (116 * share * n)) (sym (answered_shares image words replies rows accepts)) ∙ past_laid (116 * share) n (share_at image words share rows) rows share_wide
