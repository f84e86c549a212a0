-- Rows in a buffer: a row is 116 bytes, and a filled buffer holds the rows it was filled with and keeps the bytes past them.
use Prim.Native.Nat.{ℕ, zero, suc, ◌+◌, ◌*◌, ◌/◌, ◌<◌, ◌≤◌}
use mathlib.Core.Path.{◌≡◌, refl, sym, ap, ap₂, ◌∙◌}
use mathlib.Core.List.{List, [], ◌∷◌, ◌++◌, map}
use lib.ListN.{length, get_or, take, drop, replicate, length-append, length-take, length-drop, length-replicate, length-map, take-append-drop, get_or-map}
use lib.Seq.{ext_get_or, drop_at}
use native.Mathlib.Omega.{arith}
use Rattle.model.specs.Lists.{below, flat_map, joined, part, number_bytes}
use Rattle.model.specs.Readings.{Reading}
use Rattle.model.specs.Rows.{padded, row_numbers, row_bytes, row_count, row_at, filled}
use Rattle.model.specs.Demand.{as_rows}
use Rattle.model.proofs.Lists.{length_map_below, get_d_map_below}
use Rattle.model.proofs.Parts.{flat_map_joined, length_parts, part_at, parts_join}

length_padded : (n : ℕ) (xs : List ℕ) → length (padded n xs) ≡ n
length_padded n xs = omega (arith, length-take n (xs ++ replicate n 65535), length-append xs (replicate n 65535), length-replicate {A = ℕ} n 65535)

length_row_numbers : (r : Reading) → length (row_numbers r) ≡ 58
unfolding row_numbers
length_row_numbers r = omega (arith, length-append (padded 16 r.path) (length r.pairing ∷ padded 40 r.pairing), length_padded 16 r.path, length_padded 40 r.pairing)

pub length_row_bytes : (r : Reading) → length (row_bytes r) ≡ 116
unfolding row_bytes
length_row_bytes r = omega (arith, length_parts 2 number_bytes (row_numbers r) (λ n m. refl), length_row_numbers r)

pub length_rows : (rows : List Reading) → length (flat_map row_bytes rows) ≡ 116 * length rows
length_rows rows = length_parts 116 row_bytes rows (λ r m. length_row_bytes r)

none : Reading
none = record { path = []; pairing = [] }

module _ (buffer : List ℕ) (rows : List Reading) where
  row_at_lem : (k : ℕ) → k < length rows → row_at (filled buffer rows) k ≡ row_bytes (get_or rows k none)
  unfolding row_at filled
  row_at_lem k h = part_at 116 row_bytes rows (λ r m. length_row_bytes r) (drop (116 * length rows) buffer) k none h

  pub filled_rows : map (row_at (filled buffer rows)) (below (length rows)) ≡ as_rows rows
  filled_rows =
      let m = length_map_below (row_at (filled buffer rows)) (length rows) in
      ext_get_or (row_bytes none) (map (row_at (filled buffer rows)) (below (length rows))) (as_rows rows) (m ∙ sym (length-map rows row_bytes))
      (λ i h. let k : i < length rows = omega arith in get_d_map_below (row_at (filled buffer rows)) (length rows) i (row_bytes none) k ∙ row_at_lem i k ∙ sym (get_or-map row_bytes rows i none))

  pub filled_past : drop (116 * length rows) (filled buffer rows) ≡ drop (116 * length rows) buffer
  unfolding filled
  filled_past = drop_at (flat_map row_bytes rows) (drop (116 * length rows) buffer) (116 * length rows) (length_rows rows)

  pub length_filled : length rows ≤ row_count buffer → length (filled buffer rows) ≡ length buffer
  unfolding filled
  length_filled h = omega (arith, length-append (flat_map row_bytes rows) (drop (116 * length rows) buffer), length_rows rows, length-drop (116 * length rows) buffer)

-- and back: a buffer that holds these rows, and past them what was there before
module _ (before after : List ℕ) (rows : List Reading) (n : ℕ) where
  pub rows_taken : map (row_at after) (below n) ≡ as_rows rows → take (116 * n) after ≡ flat_map row_bytes rows
  unfolding row_at
  rows_taken e = parts_join 116 after n ∙ flat_map_joined (row_at after) (below n) ∙ ap joined e ∙ sym (flat_map_joined row_bytes rows)

  pub rows_count : map (row_at after) (below n) ≡ as_rows rows → n ≡ length rows
  rows_count e = sym (length_map_below (row_at after) n) ∙ ap length e ∙ length-map rows row_bytes

  -- so they are within it
  pub rows_in : map (row_at after) (below n) ≡ as_rows rows → length after ≡ length before → length rows ≤ row_count before
  rows_in e f = let c = rows_count e in omega (arith, ap length (rows_taken e), length-take (116 * n) after, length_rows rows)

  pub filled_from : map (row_at after) (below n) ≡ as_rows rows → drop (116 * n) after ≡ drop (116 * n) before → after ≡ filled before rows
  unfolding filled
  filled_from e f =
      let c = rows_count e in
      sym (take-append-drop (116 * n) after) ∙ ap₂ (λ (k l : List ℕ). k ++ l) (rows_taken e) (f ∙ ap (λ (m : ℕ). drop (116 * m) before) c)
