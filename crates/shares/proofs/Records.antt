-- One word's record: refused by its length byte, or its first letters listed; and its reply's number byte by byte.
use Prim.Native.Nat.{ℕ, zero, suc, ◌+◌, ◌*◌, ◌^◌, ◌%◌, ◌/◌, ◌<◌, ◌≤◌}
use native.Mathlib.Nat.{div-one, div-div-eq-div-mul, pow-suc}
use mathlib.Core.Path.{◌≡◌, refl, sym, ap, ◌∙◌}
use mathlib.Core.List.{List, ◌∷◌}
use lib.ListN.{length}
use borrow.Author.Tests.{lt-leb, le-leb}
use Rattle.std.specs.Int.{w64, bytes_low_first, to_le_bytes}
use Rattle.model.specs.Lists.{byte, part}
use Rattle.model.specs.Query.{analysis}
use Rattle.model.specs.Rows.{Reply, row_count, reply_number}
use Rattle.model.specs.Calls.{listing_reply, after_listing}
use Rattle.shares.specs.Words.{word_of, low_first, record_reply, after_record, place_at}
use Rattle.shares.proofs.Over.{part_long, share_rows_lem}

module _ (image asked : List ℕ) where
  pub record_long : 32 < byte asked 0 → ((rows : ℕ) → Reply.refused 9 ≡ record_reply image asked rows) × ((share : List ℕ) → share ≡ after_record image asked share)
  unfolding record_reply after_record
  record_long h = (λ rows. rw (lt-leb (byte asked 0) 32 h) refl, λ share. rw (lt-leb (byte asked 0) 32 h) refl)

  pub record_listed : byte asked 0 ≤ 32
      → ((rows : ℕ) → listing_reply image (analysis (word_of asked)) rows ≡ record_reply image asked rows)
      × ((share : List ℕ) → after_listing image (analysis (word_of asked)) share ≡ after_record image asked share)
  unfolding record_reply after_record
  record_listed h = (λ rows. rw (le-leb (byte asked 0) 32 h) refl, λ share. rw (le-leb (byte asked 0) 32 h) refl)

-- a number's bytes, the low one first, as std tells them
low_from : (i k n : ℕ) → bytes_low_first i k n ≡ low_first k (n / 256 ^ i)
low_from i zero n = refl
low_from zero (suc k) n = rw div-one (ap (λ (bs : List ℕ). n % 256 ∷ bs) (low_from 1 k n))
low_from (suc i) (suc k) n =
    let next : n / 256 ^ suc (suc i) ≡ n / 256 ^ suc i / 256 = ap (λ (m : ℕ). n / m) (pow-suc 256 (suc i)) ∙ sym (div-div-eq-div-mul n (256 ^ suc i) 256) in
    ap (λ (bs : List ℕ). n / 256 ^ suc i % 256 ∷ bs) (low_from (suc (suc i)) k n ∙ ap (low_first k) next)

pub low_bytes : (n : ℕ) → to_le_bytes w64 n ≡ low_first 8 n
low_bytes n = low_from 0 8 n ∙ ap (low_first 8) (div-one n)

-- the reply's number in a word's place, where its record and its share are those that were lent
pub place_of : (image words out asked lent place : List ℕ) (share i : ℕ) → asked ≡ part 33 words i → lent ≡ part (116 * share) out i → 116 * share * i + 116 * share ≤ length out
    → place ≡ low_first 8 (reply_number (record_reply image asked (row_count lent))) → place ≡ place_at image words share i
place_of image words out asked lent place share i e f inside h =
    let rows : row_count lent ≡ share = ap row_count f ∙ ap (λ (n : ℕ). n / 116) (part_long (116 * share) i out inside) ∙ share_rows_lem share in
    h ∙ rw (rows, e) refl
