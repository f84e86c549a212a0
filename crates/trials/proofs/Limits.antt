-- Each limit and each place of a layout, at it and past it: a changed number in a definition fails here. Rows of tests: the answers, in order.
use Prim.Native.Nat.{ℕ, ◌*◌}
use mathlib.Core.Bool.{true, false}
use mathlib.Core.Path.{◌≡◌, refl}
use mathlib.Core.List.{List, [], ◌∷◌, ◌++◌, map}
use lib.ListN.{take, replicate, set}
use Rattle.model.specs.Lists.{below, number_bytes}
use Rattle.model.specs.Blocks.{Header, check_of, laid_out, within_limits, in_all, record_width, per_block, first_block, record_start, block_total, kind_at, records_at}
use Rattle.model.specs.RuleTables.{Pair, Sides, code_points, is_code_point, pairs, is_pair, is_set, is_side, table, column, is_table, next_state, is_final, pairs_and_boundary, breadth, columns_of}
use Rattle.model.specs.Lexicon.{entry_count, first_entry, entry, form_of, continuation, gloss, is_entry, path_length}
use Rattle.model.specs.Readings.{word_length, pairing_length}
use Rattle.model.specs.Refusals.{right_length}
use Rattle.model.specs.Rows.{Reply, reply_number, row_count}
use Rattle.model.specs.Beside.{viewed}
use Rattle.model.specs.Samples.{plain_block, entry_bytes, set_bytes, image_of, luz_letters, luz_pairs, luz_table, luz_image, tc_image}
use Rattle.model.proofs.Computed.{computed}

-- blocks
all_255 : check_of (replicate 510 255 ++ (0 ∷ 0 ∷ [])) ≡ 8629
unfolding computed
all_255 = refl

image_lengths : map (λ n. right_length (replicate n 0)) (0 ∷ 1 ∷ 511 ∷ 512 ∷ 513 ∷ 1024 ∷ 65536 ∷ 65537 ∷ 66048 ∷ [])
    ≡ false ∷ false ∷ false ∷ true ∷ false ∷ true ∷ true ∷ false ∷ false ∷ []
unfolding computed
image_lengths = refl

abbrev headed : ℕ → ℕ → ℕ → ℕ → ℕ → Header
headed l p r x e = record { form = 1; letters = l; pairs = p; rules = r; lexicons = x; entries = e; sets = 0 }

abbrev with_sets : ℕ → Header → Header
with_sets n h = record { form = h.form; letters = h.letters; pairs = h.pairs; rules = h.rules; lexicons = h.lexicons; entries = h.entries; sets = n }

lowest_counts : map within_limits (headed 2 1 0 1 1 ∷ headed 1 1 0 1 1 ∷ headed 2 0 0 1 1 ∷ headed 2 1 0 0 1 ∷ headed 2 1 0 1 0 ∷ [])
    ≡ true ∷ false ∷ false ∷ false ∷ false ∷ []
unfolding computed
lowest_counts = refl

highest_counts : map within_limits (headed 120 250 32 64 2800 ∷ headed 121 250 32 64 2800 ∷ headed 120 251 32 64 2800 ∷ headed 120 250 33 64 2800 ∷ headed 120 250 32 65 2800 ∷ headed 120 250 32 64 2801 ∷ with_sets 31 (headed 120 250 32 64 2800) ∷ with_sets 32 (headed 120 250 32 64 2800) ∷ [])
    ≡ true ∷ false ∷ false ∷ false ∷ false ∷ false ∷ true ∷ false ∷ []
unfolding computed
highest_counts = refl

totals : map (λ e. block_total (headed 9 8 1 2 e)) (1 ∷ 31 ∷ 32 ∷ 62 ∷ 63 ∷ []) ≡ 6 ∷ 6 ∷ 7 ∷ 7 ∷ 8 ∷ []
unfolding computed
totals = refl

-- the most that the limits allow: 127 blocks without sets, and 128 with them
most_blocks : map (λ n. block_total (with_sets n (headed 120 250 32 64 2800))) (0 ∷ 1 ∷ 31 ∷ []) ≡ 127 ∷ 128 ∷ 128 ∷ []
unfolding computed
most_blocks = refl

kinds : map (kind_at (headed 9 8 2 3 40)) (below 8) ≡ 1 ∷ 2 ∷ 3 ∷ 4 ∷ 4 ∷ 5 ∷ 6 ∷ 6 ∷ []
unfolding computed
kinds = refl

no_rules : map (kind_at (headed 9 8 0 3 40)) (below 6) ≡ 1 ∷ 2 ∷ 3 ∷ 5 ∷ 6 ∷ 6 ∷ []
unfolding computed
no_rules = refl

-- the block of sets stands directly after the pairs
sets_there : (map (kind_at (with_sets 5 (headed 9 8 2 3 40))) (below 9) ≡ 1 ∷ 2 ∷ 3 ∷ 7 ∷ 4 ∷ 4 ∷ 5 ∷ 6 ∷ 6 ∷ []) × (records_at (with_sets 5 (headed 9 8 2 3 40)) 3 ≡ 5)
unfolding computed
sets_there = (refl, refl)

record_counts : map (records_at (headed 9 8 2 3 40)) (below 8) ≡ 1 ∷ 9 ∷ 8 ∷ 1 ∷ 1 ∷ 3 ∷ 31 ∷ 9 ∷ []
unfolding computed
record_counts = refl

full_last_block : map (records_at (headed 9 8 2 3 62)) (6 ∷ 7 ∷ []) ≡ 31 ∷ 31 ∷ []
unfolding computed
full_last_block = refl

-- of kinds 1 to 7, of which 7 is there with no record, and of 8, which there is not: the width of a record, how many a block holds, the first block, and how many there are
widths : map (record_width (headed 9 8 2 3 40)) (below 9) ≡ 0 ∷ 14 ∷ 2 ∷ 2 ∷ 506 ∷ 2 ∷ 16 ∷ 16 ∷ 0 ∷ []
unfolding computed
widths = refl

records_a_block : map (per_block (headed 9 8 2 3 40)) (1 ∷ 2 ∷ 3 ∷ 4 ∷ 5 ∷ 6 ∷ 7 ∷ []) ≡ 36 ∷ 253 ∷ 253 ∷ 1 ∷ 253 ∷ 31 ∷ 31 ∷ []
unfolding computed
records_a_block = refl

first_blocks : (map (first_block (headed 9 8 2 3 40)) (1 ∷ 2 ∷ 3 ∷ 4 ∷ 5 ∷ 6 ∷ []) ≡ 0 ∷ 1 ∷ 2 ∷ 3 ∷ 5 ∷ 6 ∷ []) × (map (first_block (with_sets 31 (headed 9 8 2 3 40))) (1 ∷ 2 ∷ 3 ∷ 4 ∷ 5 ∷ 6 ∷ 7 ∷ []) ≡ 0 ∷ 1 ∷ 2 ∷ 4 ∷ 6 ∷ 7 ∷ 3 ∷ [])
unfolding computed
first_blocks = (refl, refl)

records_in_all : map (in_all (with_sets 5 (headed 9 8 2 3 40))) (below 9) ≡ 0 ∷ 1 ∷ 9 ∷ 8 ∷ 2 ∷ 3 ∷ 40 ∷ 5 ∷ 0 ∷ []
unfolding computed
records_in_all = refl

-- the last record of each kind, and of entries the last of a block and the first of the next
record_starts : let start = record_start (headed 9 8 2 3 40) in start 1 0 ∷ start 2 8 ∷ start 3 7 ∷ start 4 1 ∷ start 5 2 ∷ start 6 30 ∷ start 6 31 ∷ start 6 39 ∷ []
    ≡ 4 ∷ 532 ∷ 1042 ∷ 2052 ∷ 2568 ∷ 3556 ∷ 3588 ∷ 3716 ∷ []
unfolding computed
record_starts = refl

-- a block whose first n bytes of records are not 0
abbrev used : ℕ → ℕ → ℕ → List ℕ
used kind records n = plain_block kind records (replicate n 1)

abbrev small : Header
small = headed 9 8 1 2 4

records_used : laid_out small 0 (used 1 1 14) ∷ laid_out small 1 (used 2 9 18) ∷ laid_out small 2 (used 3 8 16) ∷ laid_out small 3 (used 4 1 506) ∷ laid_out small 4 (used 5 2 4) ∷ laid_out small 5 (used 6 4 64) ∷ laid_out (with_sets 2 small) 3 (used 7 2 32) ∷ []
    ≡ true ∷ true ∷ true ∷ true ∷ true ∷ true ∷ true ∷ []
unfolding computed
records_used = refl

byte_past_records : laid_out small 0 (used 1 1 15) ∷ laid_out small 1 (used 2 9 19) ∷ laid_out small 2 (used 3 8 17) ∷ laid_out small 4 (used 5 2 5) ∷ laid_out small 5 (used 6 4 65) ∷ laid_out (with_sets 2 small) 3 (used 7 2 33) ∷ []
    ≡ false ∷ false ∷ false ∷ false ∷ false ∷ false ∷ []
unfolding computed
byte_past_records = refl

last_unused_byte : laid_out small 0 (set (used 1 1 0) 509 1) ∷ laid_out small 0 (set (used 1 1 0) 510 1) ∷ laid_out small 0 (used 1 2 0) ∷ laid_out small 0 (used 2 1 0) ∷ [] ≡ false ∷ true ∷ false ∷ false ∷ []
unfolding computed
last_unused_byte = refl

-- letters, pairs, tables
code_points_lem : map is_code_point (0 ∷ 1 ∷ 55295 ∷ 55296 ∷ 57343 ∷ 57344 ∷ 65535 ∷ []) ≡ false ∷ true ∷ true ∷ false ∷ false ∷ true ∷ true ∷ []
unfolding computed
code_points_lem = refl

luz_code_points : code_points luz_image ≡ 35 ∷ 43 ∷ 99 ∷ 101 ∷ 108 ∷ 115 ∷ 117 ∷ 122 ∷ 90 ∷ []
unfolding computed
luz_code_points = refl

abbrev pair : ℕ → ℕ → Pair
pair a b = record { lexical = a; surface = b }

luz_pairs_lem : pairs luz_image ≡ pair 2 0 ∷ pair 3 3 ∷ pair 4 4 ∷ pair 5 5 ∷ pair 6 6 ∷ pair 7 7 ∷ pair 9 3 ∷ pair 9 8 ∷ []
unfolding computed
luz_pairs_lem = refl

pair_sides : map (is_pair 9) (pair 0 0 ∷ pair 0 2 ∷ pair 2 0 ∷ pair 9 9 ∷ pair 0 1 ∷ pair 1 0 ∷ pair 1 1 ∷ pair 10 2 ∷ pair 2 10 ∷ [])
    ≡ false ∷ true ∷ true ∷ true ∷ false ∷ false ∷ false ∷ false ∷ false ∷ []
unfolding computed
pair_sides = refl

-- a table with c columns and s states, its column sides a, marks m, next states n, and the bytes after them
abbrev table_of : ℕ → ℕ → ℕ → ℕ → ℕ → List ℕ → List ℕ
table_of c s a m n rest = take 506 ((c ∷ s ∷ (replicate (2 * c) a ++ replicate s m ++ replicate (c * s) n ++ rest)) ++ replicate 506 0)

table_sizes : map (λ t. is_table t 9 2) (table_of 1 1 255 1 1 [] ∷ table_of 16 24 255 1 24 [] ∷ table_of 0 1 255 1 1 [] ∷ table_of 1 0 255 1 0 [] ∷ table_of 17 24 255 1 24 [] ∷ table_of 16 25 255 1 24 [] ∷ [])
    ≡ true ∷ true ∷ false ∷ false ∷ false ∷ false ∷ []
unfolding computed
table_sizes = refl

table_entries : map (λ t. is_table t 9 2) (table_of 2 2 0 0 0 [] ∷ table_of 2 2 9 1 2 [] ∷ table_of 2 2 10 1 2 [] ∷ table_of 2 2 254 1 2 [] ∷ table_of 2 2 9 2 2 [] ∷ table_of 2 2 9 1 3 [] ∷ table_of 2 2 9 1 2 (1 ∷ []) ∷ [])
    ≡ true ∷ true ∷ false ∷ false ∷ false ∷ false ∷ false ∷ []
unfolding computed
table_entries = refl

-- each byte of a table is looked at: one bad byte among good ones
table_bytes : map (λ i. is_table (set (table_of 2 2 9 1 2 []) i 77) 9 2) (2 ∷ 5 ∷ 6 ∷ 7 ∷ 8 ∷ 11 ∷ 12 ∷ 505 ∷ []) ≡ replicate 8 false
unfolding computed
table_bytes = refl

-- column sides by nine letters and two sets; by none; by all that there may be
column_sides : (map (is_side 9 2) (0 ∷ 9 ∷ 10 ∷ 127 ∷ 128 ∷ 129 ∷ 130 ∷ 158 ∷ 254 ∷ 255 ∷ []) ≡ true ∷ true ∷ false ∷ false ∷ true ∷ true ∷ false ∷ false ∷ false ∷ true ∷ [])
    × (map (is_side 9 0) (127 ∷ 128 ∷ 129 ∷ 255 ∷ []) ≡ false ∷ false ∷ false ∷ true ∷ [])
    × (map (is_side 120 31) (120 ∷ 121 ∷ 127 ∷ 128 ∷ 158 ∷ 159 ∷ 254 ∷ []) ≡ true ∷ false ∷ false ∷ true ∷ true ∷ false ∷ false ∷ [])
unfolding computed
column_sides = (refl, refl, refl)

-- no bit above L: letters 9 and 10 where L is 9; the last bit of all; an empty set
set_letters : map (λ s. is_set 9 (set_bytes s)) ([] ∷ (0 ∷ 1 ∷ 9 ∷ []) ∷ (10 ∷ []) ∷ (127 ∷ []) ∷ []) ≡ true ∷ true ∷ false ∷ false ∷ []
unfolding computed
set_letters = refl

abbrev sides : ℕ → ℕ → Sides
sides a b = record { lexical = a; surface = b }

luz_columns : map (column (table luz_image 0)) (below 5) ≡ sides 9 3 ∷ sides 9 8 ∷ sides 2 0 ∷ sides 4 4 ∷ sides 255 255 ∷ []
unfolding computed
luz_columns = refl

luz_finals : map (is_final (table luz_image 0)) (below 6) ≡ false ∷ true ∷ true ∷ true ∷ true ∷ false ∷ []
unfolding computed
luz_finals = refl

luz_rows : map (λ s. map (next_state (table luz_image 0) s) (below 5)) (below 6)
    ≡ (0 ∷ 0 ∷ 0 ∷ 0 ∷ 0 ∷ []) ∷ (3 ∷ 2 ∷ 1 ∷ 1 ∷ 1 ∷ []) ∷ (3 ∷ 2 ∷ 4 ∷ 1 ∷ 1 ∷ []) ∷ (0 ∷ 0 ∷ 5 ∷ 0 ∷ 0 ∷ []) ∷ (3 ∷ 2 ∷ 1 ∷ 0 ∷ 1 ∷ []) ∷ (0 ∷ 0 ∷ 0 ∷ 1 ∷ 0 ∷ []) ∷ []
unfolding computed
luz_rows = refl

tc_columns : map (column (table tc_image 0)) (below 4) ≡ sides 2 3 ∷ sides 2 255 ∷ sides 4 255 ∷ sides 255 255 ∷ []
unfolding computed
tc_columns = refl

tc_finals : map (is_final (table tc_image 0)) (below 4) ≡ false ∷ true ∷ true ∷ false ∷ []
unfolding computed
tc_finals = refl

tc_rows : map (λ s. map (next_state (table tc_image 0) s) (below 4)) (1 ∷ 2 ∷ 3 ∷ []) ≡ (3 ∷ 2 ∷ 1 ∷ 1 ∷ []) ∷ (3 ∷ 2 ∷ 0 ∷ 1 ∷ []) ∷ (0 ∷ 0 ∷ 1 ∷ 0 ∷ []) ∷ []
unfolding computed
tc_rows = refl

-- how many of the eight pairs and the boundary each column matches
luz_breadths : map (λ c. breadth [] (pairs_and_boundary luz_image) (column (table luz_image 0) c)) (below 5) ≡ 1 ∷ 1 ∷ 1 ∷ 1 ∷ 9 ∷ []
unfolding computed
luz_breadths = refl

luz_choices : columns_of luz_image 0 ≡ 2 ∷ 4 ∷ 3 ∷ 4 ∷ 4 ∷ 4 ∷ 0 ∷ 1 ∷ 4 ∷ []
unfolding computed
luz_choices = refl

-- entries and paths
luz_lexicons : map (entry_count luz_image) (below 3) ++ map (first_entry luz_image) (below 3) ≡ 2 ∷ 2 ∷ 0 ∷ 0 ∷ 2 ∷ 4 ∷ []
unfolding computed
luz_lexicons = refl

luz_entries : map (λ e. (form_of (entry luz_image e) ++ (continuation (entry luz_image e) ∷ gloss (entry luz_image e) ∷ []))) (below 4)
    ≡ (5 ∷ 7 ∷ 9 ∷ 1 ∷ 0 ∷ []) ∷ (5 ∷ 7 ∷ 3 ∷ 1 ∷ 1 ∷ []) ∷ (255 ∷ 2 ∷ []) ∷ (2 ∷ 4 ∷ 6 ∷ 255 ∷ 3 ∷ []) ∷ []
unfolding computed
luz_entries = refl

-- an entry is 16 bytes; entry 31 stands in the next block
first_entry_lem : entry luz_image 0 ≡ 3 ∷ 5 ∷ 7 ∷ 9 ∷ 0 ∷ 0 ∷ 0 ∷ 0 ∷ 0 ∷ 0 ∷ 0 ∷ 0 ∷ 0 ∷ 1 ∷ 0 ∷ 0 ∷ []
unfolding computed
first_entry_lem = refl

abbrev two_blocks : List ℕ
two_blocks = image_of luz_letters luz_pairs luz_table ((replicate 31 (entry_bytes (5 ∷ []) 255 0) ++ (entry_bytes (7 ∷ []) 255 0 ∷ entry_bytes (6 ∷ []) 255 0 ∷ [])) ∷ [])

next_block : (map (λ e. form_of (entry two_blocks e)) (30 ∷ 31 ∷ 32 ∷ []) ≡ (5 ∷ []) ∷ (7 ∷ []) ∷ (6 ∷ []) ∷ []) × (map (viewed two_blocks) (30 ∷ 31 ∷ 32 ∷ 33 ∷ []) ≡ (5 ∷ []) ∷ (7 ∷ []) ∷ (6 ∷ []) ∷ [] ∷ [])
unfolding computed
next_block = (refl, refl)

entry_forms : map (λ e. is_entry e 1 9 2) (entry_bytes [] 0 0 ∷ entry_bytes (replicate 12 2) 1 65535 ∷ entry_bytes (replicate 12 9) 255 0 ∷ entry_bytes (replicate 13 2) 1 0
    ∷ entry_bytes (1 ∷ []) 1 0 ∷ entry_bytes (2 ∷ 10 ∷ []) 1 0 ∷ [])
    ≡ true ∷ true ∷ true ∷ false ∷ false ∷ false ∷ []
unfolding computed
entry_forms = refl

entry_continuations : map (λ x. is_entry (entry_bytes (2 ∷ []) x 0) 1 9 2) (0 ∷ 1 ∷ 2 ∷ 254 ∷ 255 ∷ []) ≡ true ∷ true ∷ false ∷ false ∷ true ∷ []
unfolding computed
entry_continuations = refl

entry_rest : map (λ i. is_entry (set (entry_bytes (2 ∷ []) 0 0) i 2) 1 9 2) (2 ∷ 12 ∷ 14 ∷ []) ≡ false ∷ false ∷ true ∷ []
unfolding computed
entry_rest = refl

lengths : (map (λ n. path_length (replicate n 0)) (0 ∷ 1 ∷ 16 ∷ 17 ∷ []) ≡ false ∷ true ∷ true ∷ false ∷ [])
    × (map (λ n. word_length (replicate n 2)) (0 ∷ 1 ∷ 32 ∷ 33 ∷ []) ≡ false ∷ true ∷ true ∷ false ∷ [])
    × (map (λ n. pairing_length (replicate n 0)) (0 ∷ 1 ∷ 40 ∷ 41 ∷ []) ≡ false ∷ true ∷ true ∷ false ∷ [])
unfolding computed
lengths = (refl, refl, refl)

-- numbers, rows and replies
two_bytes : map number_bytes (0 ∷ 255 ∷ 256 ∷ 65535 ∷ 65792 ∷ []) ≡ (0 ∷ 0 ∷ []) ∷ (255 ∷ 0 ∷ []) ∷ (0 ∷ 1 ∷ []) ∷ (255 ∷ 255 ∷ []) ∷ (0 ∷ 1 ∷ []) ∷ []
two_bytes = refl

row_counts : map (λ n. row_count (replicate n 0)) (0 ∷ 115 ∷ 116 ∷ 231 ∷ 232 ∷ []) ≡ 0 ∷ 0 ∷ 1 ∷ 1 ∷ 2 ∷ []
unfolding computed
row_counts = refl

reply_numbers : map reply_number (Reply.none ∷ Reply.all 2 ∷ Reply.more 0 ∷ Reply.more 3 ∷ Reply.refused 12 ∷ []) ≡ 0 ∷ 9 ∷ 2 ∷ 14 ∷ 51 ∷ []
unfolding computed
reply_numbers = refl
