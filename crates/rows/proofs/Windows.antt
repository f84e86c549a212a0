-- What a list of readings leaves in a buffer that is lent from some row on: the list's rows from there, as many as there are places, and a count that goes one past
-- them; offered again over what a beginning of them left, they leave the same.
use Prim.Native.Nat.{ℕ, suc, ◌+◌, ◌*◌, ◌-◌, ◌/◌, ◌≤◌, ◌<◌, min}
use native.Mathlib.Decide.{dec_lt}
use native.Mathlib.Omega.{arith}
use mathlib.Core.Path.{◌≡◌, sym, ap, ap₂, ◌∙◌}
use mathlib.Core.List.{List, [], ◌∷◌, ◌++◌, append_assoc, append-nil}
use lib.ListN.{length, take, drop, length-append, length-take, length-drop, drop_of_length-le}
use lib.Seq.{take_at, take_all, drop-drop, drop-nil, drop-append-le, append_snoc}
use Rattle.model.specs.Lists.{flat_map}
use Rattle.model.specs.Readings.{Reading}
use Rattle.model.specs.Rows.{row_bytes, row_count, filled, reply_to}
use Rattle.model.proofs.Lists.{flat_map_append}
use Rattle.model.proofs.Rows.{length_rows, filled_past, length_filled}
use Rattle.rows.specs.Offering.{offer_all}
use Rattle.rows.specs.Fill.{written, passed_over, put, reply_for}
use Rattle.rows.proofs.Offering.{offer_full}
use Rattle.rows.proofs.Fill.{put_pass, put_room, put_full, put_keeps, reply_fills}

-- a row written after those that fill the buffer so far
filled_more : (buffer : List ℕ) (l : List Reading) (r : Reading) → written (filled buffer l) (length l) r ≡ filled buffer (l ++ (r ∷ []))
unfolding filled
filled_more buffer l r =
    let front = flat_map row_bytes l in
    let e : 116 * length l + 116 ≡ 116 * length (l ++ (r ∷ [])) = omega (arith, length-append l (r ∷ [])) in
    ap₂ (λ (a b : List ℕ). a ++ (row_bytes r ++ drop 116 b)) (take_at front (drop (116 * length l) buffer) (116 * length l) (length_rows l)) (filled_past buffer l)
    ∙ ap (λ (b : List ℕ). front ++ (row_bytes r ++ b)) (drop-drop 116 (116 * length l) buffer ∙ ap (λ (n : ℕ). drop n buffer) e)
    ∙ sym (append_assoc front (row_bytes r) (drop (116 * length (l ++ (r ∷ []))) buffer))
    ∙ ap (λ (b : List ℕ). b ++ drop (116 * length (l ++ (r ∷ []))) buffer) (sym (flat_map_append row_bytes l (r ∷ []) ∙ ap (λ (b : List ℕ). front ++ b) (append-nil (row_bytes r))))

-- rows written over as many others, or fewer, leave what they leave at once
filled_again : (buffer : List ℕ) (l m : List Reading) → length l ≤ length m → filled (filled buffer l) m ≡ filled buffer m
unfolding filled
filled_again buffer l m h =
    let more = 116 * (length m - length l) in
    let e : 116 * length m ≡ 116 * length l + more = omega (arith, h) in
    let past : (d : List ℕ) → drop (116 * length m) d ≡ drop more (drop (116 * length l) d) = λ d. ap (λ (n : ℕ). drop n d) e ∙ sym (drop-drop more (116 * length l) d) in
    ap (λ (d : List ℕ). flat_map row_bytes m ++ d) (past (filled buffer l) ∙ ap (drop more) (filled_past buffer l) ∙ sym (past buffer))

module _ (buffer : List ℕ) (capacity : ℕ) where
  abbrev rows : ℕ
  rows = row_count buffer

  abbrev skip : ℕ
  skip = passed_over capacity buffer

  -- the buffer has the rows from `skip` on that it has room for; how many readings there are is counted up to one more than the capacity
  abbrev window : List Reading → List ℕ × ℕ
  window l = (filled buffer (take rows (drop skip l)), min (length l) (suc capacity))

  -- the same while there is room still
  abbrev sofar : List Reading → List ℕ × ℕ
  sofar l = (filled buffer (drop skip l), length l)

  module _ (room : rows ≤ capacity) where
    module _ (l : List Reading) (r : Reading) where
      one_more : length l + 1 ≡ length (l ++ (r ∷ []))
      one_more = omega (arith, length-append l (r ∷ []))

      -- a buffer with rows written passes over as many as before
      same_skip : length l ≤ capacity → passed_over capacity (filled buffer (drop skip l)) ≡ skip
      same_skip h = ap (λ (n : ℕ). capacity - n / 116) (length_filled buffer (drop skip l) (omega (arith, length-drop skip l)))

      put_sofar : length l < capacity → put capacity (sofar l) r ≡ sofar (l ++ (r ∷ []))
      put_sofar k = go (dec_lt (length l) skip)
        where
          same : passed_over capacity (filled buffer (drop skip l)) ≡ skip
          same = same_skip (omega arith)

          go : Dec (length l < skip) → put capacity (sofar l) r ≡ sofar (l ++ (r ∷ []))
          go (yes p) =
              let none : drop skip l ≡ [] = drop_of_length-le l {i = skip} (omega arith) in
              let still : drop skip (l ++ (r ∷ [])) ≡ [] = drop_of_length-le (l ++ (r ∷ [])) {i = skip} (omega (arith, one_more)) in
              put_pass capacity (filled buffer (drop skip l)) (length l) r (omega (arith, same))
              ∙ ap₂ (λ (x : List Reading) (n : ℕ). (filled buffer x, n)) (none ∙ sym still) one_more
          go (no p) =
              let past : skip ≤ length l = omega arith in
              let place : length l - passed_over capacity (filled buffer (drop skip l)) ≡ length (drop skip l) = omega (arith, same, length-drop skip l) in
              let row : written (filled buffer (drop skip l)) (length l - passed_over capacity (filled buffer (drop skip l))) r ≡ filled buffer (drop skip (l ++ (r ∷ []))) =
              ap (λ (n : ℕ). written (filled buffer (drop skip l)) n r) place ∙ filled_more buffer (drop skip l) r ∙ ap (filled buffer) (sym (drop-append-le skip l (r ∷ []) past)) in
              put_room capacity (filled buffer (drop skip l)) (length l) r (omega (arith, same)) k ∙ ap₂ (λ (x : List ℕ) (n : ℕ). (x, n)) row one_more

    window_after : (l m : List Reading) → length l ≤ capacity → offer_all (put capacity) (sofar l) m ≡ window (l ++ m)
    unfolding offer_all
    window_after l [] h =
        let e : min (length l) (suc capacity) ≡ length l = omega arith in
        let f : length (drop skip l) ≤ rows = omega (arith, length-drop skip l) in
        rw (append-nil l, take_all rows (drop skip l) f, e)
    window_after l (r ∷ m) h = go (dec_lt (length l) capacity) (window_after (l ++ (r ∷ [])) m)
      where
        go : Dec (length l < capacity) → (length (l ++ (r ∷ [])) ≤ capacity → offer_all (put capacity) (sofar (l ++ (r ∷ []))) m ≡ window (l ++ (r ∷ []) ++ m))
            → offer_all (put capacity) (put capacity (sofar l) r) m ≡ window (l ++ r ∷ m)
        go (yes k) rest = rw (put_sofar l r k, ← append_snoc l r m) (rest (omega (arith, one_more l r)))
        go (no k) rest =
            let e : length l ≡ capacity = omega arith in
            let n : min (length (l ++ r ∷ m)) (suc capacity) ≡ capacity + 1 = omega (arith, length-append l (r ∷ m)) in
            let long : length (drop skip l) ≡ rows = omega (arith, length-drop skip l) in
            let f : take rows (drop skip (l ++ r ∷ m)) ≡ drop skip l = ap (take rows) (drop-append-le skip l (r ∷ m) (omega arith)) ∙ take_at (drop skip l) (r ∷ m) rows long in
            rw (put_full capacity (filled buffer (drop skip l)) (length l) r e, f, n) (offer_full (put capacity) (put_keeps capacity) (filled buffer (drop skip l), capacity + 1) m (omega arith))

    pub offered_window : (l : List Reading) → offer_all (put capacity) (buffer, 0) l ≡ window l
    unfolding filled
    offered_window l = ap (λ (x : List Reading). offer_all (put capacity) (filled buffer x, 0) l) (sym (drop-nil skip)) ∙ window_after [] l (omega arith)

-- Offered again over what a beginning of them left, they leave the same: a search that gave up may begin again.
module _ (buffer : List ℕ) (capacity : ℕ) (room : row_count buffer ≤ capacity) (first rest : List Reading) where
  -- the rows that the beginning left
  abbrev front : List Reading
  front = take (row_count buffer) (drop (passed_over capacity buffer) first)

  abbrev whole : List Reading
  whole = first ++ rest

  same_rows : row_count (filled buffer front) ≡ row_count buffer
  same_rows = ap (λ (n : ℕ). n / 116) (length_filled buffer front (omega (arith, length-take (row_count buffer) (drop (passed_over capacity buffer) first))))

  no_fewer : length front ≤ length (take (row_count buffer) (drop (passed_over capacity buffer) whole))
  no_fewer = simp (length-take, length-drop, length-append) (omega arith)

  over_front : offer_all (put capacity) (filled buffer front, 0) whole ≡ window buffer capacity whole
  over_front =
      offered_window (filled buffer front) capacity (omega (arith, same_rows)) whole
      ∙ ap (λ (n : ℕ). (filled (filled buffer front) (take n (drop (capacity - n) whole)), min (length whole) (suc capacity))) same_rows
      ∙ ap (λ (d : List ℕ). (d, min (length whole) (suc capacity))) (filled_again buffer front (take (row_count buffer) (drop (passed_over capacity buffer) whole)) no_fewer)

  pub window_again : offer_all (put capacity) ((offer_all (put capacity) (buffer, 0) first).0, 0) (first ++ rest) ≡ offer_all (put capacity) (buffer, 0) (first ++ rest)
  window_again =
      ap (λ (s : List ℕ × ℕ). offer_all (put capacity) (s.0, 0) whole) (offered_window buffer capacity room first)
      ∙ over_front
      ∙ sym (offered_window buffer capacity room whole)

-- lent from the first row on, the buffer is filled with what it has room for, and a reading more than that is counted once
offered_fills : (buffer : List ℕ) (l : List Reading) → offer_all (put (row_count buffer)) (buffer, 0) l ≡ (filled buffer (take (row_count buffer) l), min (length l) (suc (row_count buffer)))
offered_fills buffer l =
    let rows = row_count buffer in
    let none : rows - rows ≡ 0 = omega arith in
    offered_window buffer rows (omega arith) l ∙ ap (λ (n : ℕ). (filled buffer (take rows (drop n l)), min (length l) (suc rows))) none

-- a call that offers all readings to its buffer leaves and replies what it must
pub listed : (buffer : List ℕ) (l : List Reading) (after : List ℕ) (found : ℕ) → (after, found) ≡ offer_all (put (row_count buffer)) (buffer, 0) l
    → (after ≡ filled buffer (take (row_count buffer) l)) × (reply_for found (row_count buffer) ≡ reply_to (row_count buffer) l)
listed buffer l after found e =
    let f = e ∙ offered_fills buffer l in
    (ap (λ s. s.0) f, ap (λ s. reply_for s.1 (row_count buffer)) f ∙ reply_fills (row_count buffer) l)
