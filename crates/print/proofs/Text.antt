-- Text put after text, and a row that was written read back as its reading.
use Prim.Native.Nat.{ℕ, zero, suc, ◌+◌, ◌*◌, ◌-◌, ◌<◌, ◌≤◌}
use native.Mathlib.Numerals.{add-one}
use native.Mathlib.Omega.{arith}
use mathlib.Core.Path.{◌≡◌, refl, sym, ap, ◌∙◌}
use mathlib.Core.List.{List, [], ◌∷◌, ◌++◌, append_assoc, append-nil, Memᴰ}
use lib.ListN.{length, get_or, set, take, drop, length-append, length-set}
use lib.Seq.{take-suc-set, drop-set-lt, drop-drop, take_all, ext_get_or, paste, length-paste, take-paste, drop-paste}
use Rattle.std.proofs.lemmas.List.Edits.{paste_all}
use Rattle.model.specs.Lists.{flat_map, number, number_bytes}
use Rattle.model.specs.Readings.{Reading}
use Rattle.model.specs.Rows.{padded, row_numbers, row_bytes, row_at}
use Rattle.model.specs.Lines.{spaced, printed_row}
use Rattle.model.proofs.Lists.{member_at, flat_map_below, length_map_below, get_d_map_below}
use Rattle.model.proofs.Rows.{length_row_bytes}
use Rattle.rows.specs.Trail.{row_number}
use Rattle.rows.proofs.Places.{used, entry_count_lem, entry_number, pair_count, pair_number_lem}
use Rattle.print.specs.Text.{Put, numbers_from, row_reading, Row, printed_rows}

module _ {before after : List ℕ} {at end : ℕ} where
  pub put_same : {text other : List ℕ} → text ≡ other → Put before after at end text → Put before after at end other
  put_same e p = rw e at p

  -- text after text
  pub put_then : {last : List ℕ} {stop : ℕ} {text more : List ℕ} → Put before after at end text → Put after last end stop more → Put before last at stop (text ++ more)
  put_then {last} {stop} {text} {more} p q =
      let later : end + (stop - end) ≡ stop = omega (arith, q.ends) in
      record {
        same_length = q.same_length ∙ p.same_length;
        written = q.written ∙ ap (λ (l : List ℕ). l ++ more) p.written ∙ append_assoc (take at before) text more;
        ends = omega (arith, length-append text more);
        kept = q.kept
            ∙ sym (ap (λ (n : ℕ). drop n after) later)
            ∙ sym (drop-drop (stop - end) end after)
            ∙ ap (drop (stop - end)) p.kept
            ∙ drop-drop (stop - end) end before
            ∙ ap (λ (n : ℕ). drop n before) later;
      }

module _ (buffer : List ℕ) (at : ℕ) where
  pub put_none : Put buffer buffer at at []
  put_none = record { same_length = refl; written = sym (append-nil (take at buffer)); ends = omega arith; kept = refl }

  pub put_one : (b : ℕ) → at < length buffer → Put buffer (set buffer at b) at (at + 1) (b ∷ [])
  put_one b h = record { same_length = length-set buffer at b; written = rw add-one (take-suc-set buffer at b h); ends = refl; kept = drop-set-lt (at + 1) buffer at b (omega arith) }

  -- a whole text written over its part of the buffer
  pub put_part : (text : List ℕ) → at + length text ≤ length buffer
      → Put buffer (take at buffer ++ (text ++ drop (at + length text - at) (drop at buffer))) at (at + length text) text
  put_part text h =
      let n = length text in
      let whole : take n text ≡ text = take_all n text (omega arith) in
      let behind : drop (at + n - at) (drop at buffer) ≡ drop (at + n) buffer = drop-drop (at + n - at) at buffer ∙ ap (λ (m : ℕ). drop m buffer) (omega arith) in
      let pasted : take at buffer ++ (text ++ drop (at + n - at) (drop at buffer)) ≡ paste buffer at text n =
      ap (λ (d : List ℕ). take at buffer ++ (text ++ d)) behind ∙ sym (paste_all buffer at text n refl) in
      rw pasted (record {
        same_length = length-paste buffer at text n h (omega arith);
        written = take-paste buffer at text n (omega arith) (omega arith) ∙ ap (λ (l : List ℕ). take at buffer ++ l) whole;
        ends = refl;
        kept = drop-paste buffer at text n (omega arith) (omega arith);
      })

-- a row's line, where e and p are its counts
pub row_text : (row : List ℕ) {e p : ℕ} → e ≡ number row 0 → p ≡ number row 34
    → spaced (numbers_from row 2 e) ++ (32 ∷ 124 ∷ 32 ∷ spaced (numbers_from row 36 p)) ++ (10 ∷ []) ≡ printed_row (row_reading row)
unfolding printed_row row_reading
row_text row h k = rw (h, k)

-- row j as the part of the buffer that is lent
pub row_part : (rows : List ℕ) (j : ℕ) → take (116 * j + 116 - 116 * j) (drop (116 * j) rows) ≡ row_at rows j
unfolding row_at
row_part rows j = let e : 116 * j + 116 - 116 * j ≡ 116 = omega arith in rw e

-- one row more
pub rows_more : (rows : List ℕ) (j : ℕ) → printed_rows rows (j + 1) ≡ printed_rows rows j ++ printed_row (row_reading (row_at rows j))
rows_more rows j = ap (printed_rows rows) (add-one j) ∙ flat_map_below (λ i. printed_row (row_reading (row_at rows i))) j

-- number k of a list that stands as two bytes each
pub number_at : (ns : List ℕ) (k : ℕ) → get_or ns k 0 < 65536 → number (flat_map number_bytes ns) (2 * k) ≡ get_or ns k 0
number_at [] k h = refl
number_at (n ∷ ns) zero h = omega arith
number_at (n ∷ ns) (suc k) h =
    let e : 2 * suc k ≡ suc (suc (2 * k)) = omega arith in
    ap (number (flat_map number_bytes (n ∷ ns))) e ∙ later ∙ number_at ns k h
  where
    later : number (flat_map number_bytes (n ∷ ns)) (suc (suc (2 * k))) ≡ number (flat_map number_bytes ns) (2 * k)
    later = rw (add-one, add-one)

-- each fits two bytes
abbrev pub TwoBytes : List ℕ → Type 0
TwoBytes ns = (n : ℕ) → Memᴰ n ns → n < 65536

-- a list that stands among others from place k on
module _ (ns l : List ℕ) (k : ℕ) (same : (i : ℕ) → i < length l → get_or ns (k + i) 0 ≡ get_or l i 0) (small : TwoBytes l) where
  abbrev there : ℕ → ℕ
  there i = number (flat_map number_bytes ns) (2 * k + 2 * i)

  there_is : (i : ℕ) → i < length l → there i ≡ get_or l i 0
  there_is i h =
      let e : 2 * k + 2 * i ≡ 2 * (k + i) = omega arith in
      ap (number (flat_map number_bytes ns)) e ∙ number_at ns (k + i) (omega (arith, same i h, small (get_or l i 0) (member_at l i 0 h))) ∙ same i h

  numbers_back : numbers_from (flat_map number_bytes ns) (2 * k) (length l) ≡ l
  numbers_back =
      ext_get_or 0 (numbers_from (flat_map number_bytes ns) (2 * k) (length l)) l (length_map_below there (length l))
      (λ i h. let m : i < length l = omega (arith, length_map_below there (length l)) in get_d_map_below there (length l) i 0 m ∙ there_is i m)

-- a used place of those that are padded to w
padded_at : (w : ℕ) (l : List ℕ) (i : ℕ) → i < w → i < length l → get_or (padded w l) i 0 ≡ get_or l i 0
padded_at w l i h k = sym (used l w (length l) i h (omega arith) k ∙ ap (λ (m : List ℕ). get_or (padded w m) i 0) (take_all (length l) l (omega arith)))

module _ (r : Reading) (entries_most : length r.path ≤ 16) (pairs_most : length r.pairing ≤ 40) where
  pub row_entries : number (row_bytes r) 0 ≡ length r.path
  unfolding row_bytes
  row_entries = number_at (row_numbers r) 0 (omega (arith, entry_count_lem r)) ∙ sym (entry_count_lem r)

  pub row_pairs : number (row_bytes r) 34 ≡ length r.pairing
  unfolding row_bytes
  row_pairs = number_at (row_numbers r) 17 (omega (arith, pair_count r)) ∙ sym (pair_count r)

  pub row_right : Row (row_bytes r)
  row_right = record { whole = length_row_bytes r; entries_most = omega (arith, row_entries); pairs_most = omega (arith, row_pairs) }

  entry_at : (i : ℕ) → i < length r.path → row_number r (1 + i) ≡ get_or r.path i 0
  entry_at i h =
      let e : (1 + i) - 1 ≡ i = omega arith in
      sym (entry_number r (1 + i) (omega arith) (omega arith)) ∙ ap (λ (n : ℕ). get_or (padded 16 r.path) n 0) e ∙ padded_at 16 r.path i (omega arith) h

  pair_at_lem : (i : ℕ) → i < length r.pairing → row_number r (18 + i) ≡ get_or r.pairing i 0
  pair_at_lem i h =
      let e : (18 + i) - 18 ≡ i = omega arith in
      sym (pair_number_lem r (18 + i) (omega arith)) ∙ ap (λ (n : ℕ). get_or (padded 40 r.pairing) n 0) e ∙ padded_at 40 r.pairing i (omega arith) h

  pub row_reading_lem : TwoBytes r.path → TwoBytes r.pairing → row_reading (row_bytes r) ≡ r
  unfolding row_reading row_bytes
  row_reading_lem path-small pairing-small =
      rw (row_entries, row_pairs, numbers_back (row_numbers r) r.path 1 entry_at path-small, numbers_back (row_numbers r) r.pairing 18 pair_at_lem pairing-small)
