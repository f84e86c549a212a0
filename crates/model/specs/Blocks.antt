-- Document 01, "Blocks", with the kind that document 02, (c), adds: blocks and their fields, the check, sealing, and the table of kinds, which says where each
-- record stands.
use Rattle.std.specs.Prelude.{ℕ, suc, ◌+◌, ◌*◌, ◌-◌, ◌/◌, ◌%◌, min, Bool, ◌&&◌, cond, List, [], ◌∷◌, ◌++◌, map, length, take, drop, ltb, eqb}
use Rattle.model.specs.Lists.{below, every, sum, part, flat_map, within, is_zero, byte, number, number_bytes}

-- "An image is 1 to 128 blocks of 512 bytes."
abbrev pub block_count : List ℕ → ℕ
block_count image = length image / 512

unfoldable pub block : List ℕ → ℕ → List ℕ
block image k = part 512 image k

-- "Bytes 0-1 hold the block's number from 0, byte 2 its kind, byte 3 its record count, bytes 4-509 records, bytes 510-511 the check"
abbrev pub block_number : List ℕ → ℕ
block_number b = number b 0

abbrev pub block_kind : List ℕ → ℕ
block_kind b = byte b 2

abbrev pub record_count : List ℕ → ℕ
record_count b = byte b 3

abbrev pub block_check : List ℕ → ℕ
block_check b = number b 510

-- "the sum over i .. of (i + 1) times byte i", the bytes given from place i on
unfoldable pub weighted_sum : ℕ → List ℕ → ℕ
weighted_sum i [] = 0
weighted_sum i (b ∷ bs) = suc i * b + weighted_sum (suc i) bs

-- "the check: 1 plus the sum over i from 0 to 509 .., modulo 65,521"
unfoldable pub check_of : List ℕ → ℕ
check_of b = (1 + weighted_sum 0 (take 510 b)) % 65521

-- "Sealing writes number and check into every block and nothing else.": the number first, and the check over it
unfoldable pub numbered : ℕ → List ℕ → List ℕ
numbered k b = number_bytes k ++ drop 2 (take 510 b)

unfoldable pub sealed_block : ℕ → List ℕ → List ℕ
sealed_block k b = let n = numbered k b in n ++ number_bytes (check_of n)

unfoldable pub sealed_image : List ℕ → List ℕ
sealed_image image = flat_map (λ k. sealed_block k (block image k)) (below (block_count image))

-- "form (1), L, P, R, X, E, two bytes each", and document 02, (c): "a sixth count, in the two header bytes that follow E": the one record of kind 1
pub record Header : Type 0 where
  pub form : ℕ
  pub letters : ℕ
  pub pairs : ℕ
  pub rules : ℕ
  pub lexicons : ℕ
  pub entries : ℕ
  pub sets : ℕ

unfoldable pub header : List ℕ → Header
header image =
    let b = block image 0 in
    record { form = number b 4; letters = number b 6; pairs = number b 8; rules = number b 10; lexicons = number b 12; entries = number b 14; sets = number b 16 }

-- the table of kinds, a row for each: "blocks", "record width", and how many records of it there are in all
pub record Kind : Type 0 where
  pub kind : ℕ
  pub blocks : ℕ
  pub width : ℕ
  pub in_all : ℕ

abbrev pub row : ℕ → ℕ → ℕ → ℕ → Kind
row kind blocks width in_all = record { kind = kind; blocks = blocks; width = width; in_all = in_all }

-- "bytes 4-509 records": how many of a width a block holds
abbrev pub fitting : ℕ → ℕ
fitting width = 506 / width

-- "rounded up": the blocks that so many records of a width fill
abbrev pub filling : ℕ → ℕ → ℕ
filling width n = (n + (fitting width - 1)) / fitting width

-- a kind with as many blocks as its records fill
abbrev pub filled : ℕ → ℕ → ℕ → Kind
filled kind width n = row kind (filling width n) width n

-- how wide an entry is: document 01's 16 bytes, and document 02, (e): "Form 2 of the image has entries of 24 bytes, 21 to a block"
abbrev pub entry_width : ℕ → ℕ
entry_width form = cond (eqb form 2) 24 16

-- the rows "in this order", which is that of the blocks; the header decides, so that a form or a count can. Of the sets: "in one block of kind 7 directly after
-- the pairs. Each record is 16 bytes .. The block is there exactly when a sixth count .. isn't 0"
unfoldable pub kinds : Header → List Kind
kinds h =
    row 1 1 14 1
    ∷ row 2 1 2 h.letters
    ∷ row 3 1 2 h.pairs
    ∷ filled 7 16 h.sets
    ∷ row 4 h.rules 506 h.rules
    ∷ row 5 1 2 h.lexicons
    ∷ filled 6 (entry_width h.form) h.entries
    ∷ []

-- the row of a kind; nothing, where there is none
abbrev pub row_of : ℕ → List Kind → Kind
row_of kind [] = row 0 0 0 0
row_of kind (r ∷ rs) = cond (eqb r.kind kind) r (row_of kind rs)

-- the blocks before those of a kind, where n stand before the first row's
abbrev pub blocks_before : ℕ → ℕ → List Kind → ℕ
blocks_before kind n [] = n
blocks_before kind n (r ∷ rs) = cond (eqb r.kind kind) n (blocks_before kind (n + r.blocks) rs)

-- the kind of block k, where n blocks stand before the first row's
abbrev pub kind_from : ℕ → ℕ → List Kind → ℕ
kind_from k n [] = 0
kind_from k n (r ∷ rs) = cond (ltb k (n + r.blocks)) r.kind (kind_from k (n + r.blocks) rs)

module _ (h : Header) where
  -- by kind: how many records there are, how wide each is, how many a block holds, and its first block
  abbrev pub in_all : ℕ → ℕ
  in_all kind = (row_of kind (kinds h)).in_all

  abbrev pub record_width : ℕ → ℕ
  record_width kind = (row_of kind (kinds h)).width

  abbrev pub per_block : ℕ → ℕ
  per_block kind = fitting (record_width kind)

  abbrev pub first_block : ℕ → ℕ
  first_block kind = blocks_before kind 0 (kinds h)

  -- where record i of a kind begins: in which block, and after how many records of it
  unfoldable pub record_start : ℕ → ℕ → ℕ
  record_start kind i = 512 * (first_block kind + i / per_block kind) + (4 + record_width kind * (i % per_block kind))

  unfoldable pub block_total : ℕ
  block_total = sum (map (λ r. r.blocks) (kinds h))

  unfoldable pub kind_at : ℕ → ℕ
  kind_at k = kind_from k 0 (kinds h)

  -- "Kind 4 counts one record a block; kind 6 has 31, the last block the rest.": those that the blocks before have left, as many as a block holds
  unfoldable pub records_at : ℕ → ℕ
  records_at k = let kind = kind_at k in min (per_block kind) (in_all kind - per_block kind * (k - first_block kind))

  -- "Limits: letters L 2-120, pairs P 1-250, rules R 0-32, lexicons X 1-64, entries E 1-2,800." And of sets: "a count over 31 is refused with 3"
  unfoldable pub within_limits : Bool
  within_limits = within 2 120 h.letters && within 1 250 h.pairs && within 0 32 h.rules && within 1 64 h.lexicons && within 1 2800 h.entries && within 0 31 h.sets

  -- block k's kind, its record count, and "Unused bytes before the check are 0."
  unfoldable pub laid_out : ℕ → List ℕ → Bool
  laid_out k b =
      eqb (block_kind b) (kind_at k)
      && eqb (record_count b) (records_at k)
      && every is_zero (drop (4 + record_width (kind_at k) * records_at k) (take 510 b))

-- the bytes of record i of a kind
unfoldable pub record_at : List ℕ → ℕ → ℕ → List ℕ
record_at image kind i = let h = header image in take (record_width h kind) (drop (record_start h kind i) image)
