-- An image made from counts and records says what it was made from: its blocks, its records, its header; and tests 1 to 3 let it pass.
use Prim.Native.Nat.{ℕ, zero, suc, ◌+◌, ◌*◌, ◌-◌, ◌/◌, ◌%◌, ◌<◌, ◌≤◌}
use native.Mathlib.Nat.{add_assoc, le_refl, mul-le-mul, mul-suc, mod-lt, div-add-mod, div-lt_iff_lt-mul}
use native.Mathlib.Omega.{arith}
use mathlib.Core.Path.{◌≡◌, refl, sym, ap, ap₂, ◌∙◌, subst}
use mathlib.Core.List.{List, [], ◌∷◌, ◌++◌, append_assoc, append-nil}
use lib.ListN.{length, take, drop, replicate, length-append, length-replicate}
use lib.Seq.{take_at, drop_at, take-take, drop-drop, get_or-take, get_or-drop}
use lib.Dec.{T, eqb}
use Rattle.model.specs.Lists.{below, every, flat_map, part, is_zero, within, byte, number, number_bytes}
use Rattle.model.specs.Blocks.{Header, header, block, block_count, block_total, kinds, row_of, in_all, record_width, per_block}
use Rattle.model.specs.Blocks.{first_block, record_start, record_at, kind_at, records_at, laid_out, numbered, sealed_block, sealed_image, check_of}
use Rattle.model.specs.Refusals.{right_length, right_checks}
use Rattle.model.proofs.Booleans.{and_in, in3, within_in, eq→eqb}
use Rattle.model.proofs.Lists.{length_below, below_from, get_d_below, drop_take}
use Rattle.model.proofs.Parts.{Wide, length_parts, part_at, flat_map_same}
use Rattle.model.proofs.Blocks.{header_read}
use Rattle.model.proofs.Sealing.{number_back, length_sealed_image, block_sealed, sealed_checks}
use Rattle.image.specs.Laid.{Limited}
use Rattle.image.specs.Kinds.{IsKind}
use Rattle.image.proofs.Records.{kind_fitted, some_fit, record_block}
use Rattle.layout.proofs.Placing.{placed}
use Rattle.built.specs.Built.{Records, header_bytes, record_in, record_bytes, block_front, built_block, built, Sized}
use Rattle.built.proofs.Placed.{records_by, records_among, records_fit}

-- a part that lies within one block
pub in_block : (l : List ℕ) (b at w : ℕ) → at + w ≤ 512 → take w (drop (512 * b + at) l) ≡ take w (drop at (block l b))
unfolding block
in_block l b at w fits =
    let rest = drop (512 * b) l in
    let all : 512 ≡ at + (512 - at) = omega arith in
    sym
    (ap (λ (n : ℕ). take w (drop at (take n rest))) all
    ∙ ap (take w) (drop_take at (512 - at) rest)
    ∙ take-take w (512 - at) (drop at rest) (omega arith)
    ∙ ap (take w) (drop-drop at (512 * b) l))

zeros_zero : (n : ℕ) → T (every is_zero (replicate n 0))
zeros_zero zero = tt
zeros_zero (suc n) = zeros_zero n

module _ (h : Header) (records : Records) (few : block_total h ≤ 128) (some : 1 ≤ block_total h) (sized : Sized h records) where
  abbrev plain : List ℕ
  plain = flat_map (built_block h records) (below (block_total h))

  abbrev image : List ℕ
  image = built h records

  module _ (k : ℕ) where
    abbrev bytes : List ℕ
    bytes = record_bytes h records k

    abbrev zeros : List ℕ
    zeros = replicate (506 - length bytes) 0

    records_wide : Wide (record_width h (kind_at h k)) (record_in h records k) (below (records_at h k))
    unfolding record_in
    records_wide i m = sized (kind_at h k) (per_block h (kind_at h k) * (k - first_block h (kind_at h k)) + i) (records_among h k i (below_from (records_at h k) i m))

    pub bytes_long : length bytes ≡ record_width h (kind_at h k) * records_at h k
    unfolding record_bytes
    bytes_long = length_parts (record_width h (kind_at h k)) (record_in h records k) (below (records_at h k)) records_wide
        ∙ ap (λ (n : ℕ). record_width h (kind_at h k) * n) (length_below (records_at h k))

    front_long : length (block_front h records k) ≡ 510
    unfolding block_front
    front_long = omega (arith, length-append bytes zeros, length-replicate {A = ℕ} (506 - length bytes) 0, bytes_long, records_fit h k)

    pub block_long : length (built_block h records k) ≡ 512
    unfolding built_block
    block_long = omega (arith, length-append (block_front h records k) (0 ∷ 0 ∷ []), front_long)

    -- the block with its number, up to its check
    abbrev pub sealed_front : List ℕ
    sealed_front = k % 256 ∷ k / 256 % 256 ∷ kind_at h k ∷ records_at h k ∷ (bytes ++ zeros)

    front_numbered : numbered k (built_block h records k) ≡ sealed_front
    unfolding numbered built_block block_front
    front_numbered = ap (λ (l : List ℕ). number_bytes k ++ drop 2 l) (take_at (block_front h records k) (0 ∷ 0 ∷ []) 510 front_long)

    pub block_sealed_is : sealed_block k (built_block h records k) ≡ sealed_front ++ number_bytes (check_of sealed_front)
    unfolding sealed_block
    block_sealed_is = ap (λ (l : List ℕ). l ++ number_bytes (check_of l)) front_numbered

    sealed_long : length sealed_front ≡ 510
    sealed_long = omega (arith, length-append bytes zeros, length-replicate {A = ℕ} (506 - length bytes) 0, bytes_long, records_fit h k)

  plain_wide : Wide 512 (built_block h records) (below (block_total h))
  plain_wide k m = block_long k

  plain_long : length plain ≡ 512 * block_total h
  plain_long = length_parts 512 (built_block h records) (below (block_total h)) plain_wide ∙ ap (λ (n : ℕ). 512 * n) (length_below (block_total h))

  plain_right : T (right_length plain)
  unfolding right_length
  plain_right = let e = plain_long in
      and_in (within 1 65536 (length plain)) (eqb (length plain % 512) 0) (within_in 1 65536 (length plain) (omega arith) (omega arith)) (eq→eqb (length plain % 512) 0 (omega arith))

  plain_count : block_count plain ≡ block_total h
  plain_count = omega (arith, plain_long)

  plain_block_lem : (k : ℕ) → k < block_total h → block plain k ≡ built_block h records k
  unfolding block
  plain_block_lem k there =
      let n = block_total h in
      ap (λ (l : List ℕ). part 512 l k) (sym (append-nil plain))
      ∙ part_at 512 (built_block h records) (below n) plain_wide [] k 0 (omega (arith, length_below n))
      ∙ ap (built_block h records) (get_d_below n k there)

  pub built_long : length image ≡ 512 * block_total h
  unfolding built
  built_long = length_sealed_image plain plain_right ∙ plain_long

  -- block after block
  pub built_blocks : image ≡ flat_map (λ k. sealed_block k (built_block h records k)) (below (block_total h))
  unfolding built sealed_image
  built_blocks =
      ap (λ (n : ℕ). flat_map (λ k. sealed_block k (block plain k)) (below n)) plain_count
      ∙ flat_map_same (λ k. sealed_block k (block plain k)) (λ k. sealed_block k (built_block h records k)) (below (block_total h))
      (λ k m. ap (sealed_block k) (plain_block_lem k (below_from (block_total h) k m)))

  pub built_count : block_count image ≡ block_total h
  built_count = omega (arith, built_long)

  pub built_block_lem : (k : ℕ) → k < block_total h → block image k ≡ sealed_front k ++ number_bytes (check_of (sealed_front k))
  unfolding built
  built_block_lem k there = block_sealed plain plain_right k (omega (arith, plain_count)) ∙ ap (sealed_block k) (plain_block_lem k there) ∙ block_sealed_is k

  -- test 1
  pub built_length : T (right_length image)
  unfolding right_length
  built_length = rw (built_long) (rw (plain_long) at plain_right)

  -- test 2
  pub built_checks : T (right_checks image)
  unfolding built
  built_checks = sealed_checks plain plain_right

  -- record i of block k
  record_there : (k i : ℕ) → k < block_total h → i < records_at h k → take (record_width h (kind_at h k)) (drop (512 * k + (4 + record_width h (kind_at h k) * i)) image) ≡ record_in h records k i
  unfolding record_bytes
  record_there k i there l =
      let w = record_width h (kind_at h k) in
      let check = number_bytes (check_of (sealed_front k)) in
      let n = records_at h k in
      in_block image k (4 + w * i) w (fits w n i l (records_fit h k))
      ∙ ap (λ (b : List ℕ). take w (drop (4 + w * i) b)) (built_block_lem k there)
      ∙ ap (take w) (sym (drop-drop (w * i) 4 (sealed_front k ++ check)))
      ∙ ap (λ (b : List ℕ). take w (drop (w * i) b)) (append_assoc (bytes k) (zeros k) check)
      ∙ part_at w (record_in h records k) (below n) (records_wide k) (zeros k ++ check) i 0 (omega (arith, length_below n))
      ∙ ap (record_in h records k) (get_d_below n i l)
    where
      fits : (w n i : ℕ) → i < n → w * n ≤ 506 → 4 + w * i + w ≤ 512
      fits w n i l f = omega (arith, mul-le-mul {n₁ = w} {m₁ = suc i} {n₂ = w} {m₂ = n} (le_refl w) l, mul-suc w i)

  -- record i of a kind, by the block that holds it
  module _ (limits : Limited h) (kind i : ℕ) (is : IsKind kind) (there : i < in_all h kind) where
    abbrev at : ℕ
    at = first_block h kind + i / per_block h kind

    slots : 1 ≤ per_block h kind
    slots = let f = kind_fitted h limits kind i there in some_fit (record_width h kind) f.wide f.narrow

    kind_there : kind_at h at ≡ kind
    kind_there =
        let f = kind_fitted h limits kind i there in
        sym (placed h at kind is (omega arith) (omega (arith, (div-lt_iff_lt-mul {k = per_block h kind} {x = i} {y = (row_of kind (kinds h)).blocks} slots).1 (omega arith)))).kind_is

    number_there : per_block h kind * (at - first_block h kind) + i % per_block h kind ≡ i
    number_there =
        let e : at - first_block h kind ≡ i / per_block h kind = omega arith in
        ap (λ (n : ℕ). per_block h kind * n + i % per_block h kind) e ∙ div-add-mod i (per_block h kind)

    slot_there : i % per_block h kind < records_at h at
    slot_there = omega (arith, records_by h at kind_there, number_there, mod-lt i {m = per_block h kind} slots)

    abbrev Reads : ℕ → Type 0
    Reads x = take (record_width h x) (drop (512 * at + (4 + record_width h x * (i % per_block h kind))) image) ≡ records x (per_block h x * (at - first_block h x) + i % per_block h kind)

    record_read : Reads (kind_at h at)
    unfolding record_in
    record_read = record_there at (i % per_block h kind) (record_block h limits kind i there) slot_there

    -- by the counts that it was made from
    pub built_part : take (record_width h kind) (drop (record_start h kind i) image) ≡ records kind i
    unfolding record_start
    built_part = subst Reads kind_there record_read ∙ ap (records kind) number_there

    -- by its own
    pub built_record : header image ≡ h → record_at image kind i ≡ records kind i
    unfolding record_at
    built_record e = ap (λ (g : Header). take (record_width g kind) (drop (record_start g kind i) image)) e ∙ built_part

  -- test 3, block by block
  pub built_laid : (k : ℕ) → k < block_total h → T (laid_out h k (block image k))
  unfolding laid_out
  built_laid k there = rw (built_block_lem k there) (in3 (eqb (kind_at h k) (kind_at h k)) (eqb (records_at h k) (records_at h k))
      (every is_zero (drop (4 + record_width h (kind_at h k) * records_at h k) (take 510 (sealed_front k ++ check))))
      (eq→eqb (kind_at h k) (kind_at h k) refl) (eq→eqb (records_at h k) (records_at h k) refl)
      (subst (λ (l : List ℕ). T (every is_zero l)) (sym unused) (zeros_zero (506 - length (bytes k)))))
    where
      check : List ℕ
      check = number_bytes (check_of (sealed_front k))

      m : ℕ
      m = record_width h (kind_at h k) * records_at h k

      unused : drop (4 + m) (take 510 (sealed_front k ++ check)) ≡ zeros k
      unused = ap (drop (4 + m)) (take_at (sealed_front k) check 510 (sealed_long k)) ∙ sym (drop-drop m 4 (sealed_front k)) ∙ drop_at (bytes k) (zeros k) m (bytes_long k)

  -- the header, where record 0 of kind 1 says it
  module _ (limits : Limited h) (form_small : h.form < 65536) (says : records 1 0 ≡ header_bytes h) where
    head_part : take 14 (drop 4 image) ≡ header_bytes h
    unfolding kinds record_start
    head_part = built_part limits 1 0 (omega arith, omega arith) (omega arith) ∙ says

    head_byte : (t : ℕ) → t < 14 → byte image (4 + t) ≡ byte (header_bytes h) t
    head_byte t l = sym (get_or-take 14 (drop 4 image) t 0 l ∙ get_or-drop 4 image t 0) ∙ ap (λ (b : List ℕ). byte b t) head_part

    head_number : (t : ℕ) → t + 1 < 14 → number image (4 + t) ≡ number (header_bytes h) t
    head_number t l = ap₂ (λ (x y : ℕ). x + 256 * y) (head_byte t (omega arith)) (ap (byte image) (add_assoc 4 t 1) ∙ head_byte (t + 1) l)

    pub built_header : header image ≡ h
    unfolding header_bytes
    built_header =
        sym
        (header_read image
        (sym (head_number 0 (omega arith) ∙ number_back h.form form_small))
        (sym (head_number 2 (omega arith) ∙ number_back h.letters (omega (arith, limits.letters_most))))
        (sym (head_number 4 (omega arith) ∙ number_back h.pairs (omega (arith, limits.pairs_most))))
        (sym (head_number 6 (omega arith) ∙ number_back h.rules (omega (arith, limits.rules_most))))
        (sym (head_number 8 (omega arith) ∙ number_back h.lexicons (omega (arith, limits.lexicons_most))))
        (sym (head_number 10 (omega arith) ∙ number_back h.entries (omega (arith, limits.entries_most))))
        (sym (head_number 12 (omega arith) ∙ number_back h.sets (omega (arith, limits.sets_most)))))
