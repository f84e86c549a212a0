-- Document 01, "The luz grammar and other trials", and those of document 02: the images that the trials are about, as bytes.
use Rattle.std.specs.Prelude.{ℕ, ◌+◌, ◌*◌, ◌-◌, ◌/◌, ◌^◌, not, cond, List, [], ◌∷◌, ◌++◌, map, length, replicate, set, eqb}
use Rattle.model.specs.Lists.{below, given, any, sum, part, joined, flat_map, is_zero, number_bytes}
use Rattle.model.specs.Blocks.{sealed_image}

-- a block's bytes before sealing
unfoldable pub plain_block : ℕ → ℕ → List ℕ → List ℕ
plain_block kind records bytes = 0 ∷ 0 ∷ kind ∷ records ∷ (bytes ++ replicate (508 - length bytes) 0)

-- an entry: its letters, its continuation, its gloss
unfoldable pub entry_bytes : List ℕ → ℕ → ℕ → List ℕ
entry_bytes form continuation gloss = length form ∷ (form ++ replicate (12 - length form) 0 ++ (continuation ∷ number_bytes gloss))

-- a set of letters: "bit b of byte j for letter 8j + b"
unfoldable pub set_bytes : List ℕ → List ℕ
set_bytes letters = map (λ j. sum (map (λ b. cond (any (eqb (8 * j + b)) letters) (2 ^ b) 0) (below 8))) (below 16)

-- a sealed image of one rule, and of sets, each as its bytes; the entries of each lexicon in order
unfoldable pub image_with : List (List ℕ) → List ℕ → List ℕ → List ℕ → List (List (List ℕ)) → List ℕ
image_with sets code_points pairs table lexicons =
    let entries = joined lexicons in
    sealed_image
    (joined
    (plain_block 1 1 (flat_map number_bytes (1 ∷ length code_points ∷ length pairs / 2 ∷ 1 ∷ length lexicons ∷ length entries ∷ length sets ∷ []))
    ∷ plain_block 2 (length code_points) (flat_map number_bytes code_points)
    ∷ plain_block 3 (length pairs / 2) pairs
    ∷ (given (not (is_zero (length sets))) (plain_block 7 (length sets) (joined sets) ∷ [])
    ++ (plain_block 4 1 table
    ∷ plain_block 5 (length lexicons) (flat_map (λ l. number_bytes (length l)) lexicons)
    ∷ map (λ k. let es = part 31 entries k in plain_block 6 (length es) (joined es)) (below ((length entries + 30) / 31))))))

unfoldable pub image_of : List ℕ → List ℕ → List ℕ → List (List (List ℕ)) → List ℕ
image_of = image_with []

-- "Letters 1-9: # + c e l s u z Z. Pairs 0-7: +:0 c:c e:e l:l s:s u:u Z:c Z:z."
abbrev pub luz_letters : List ℕ
luz_letters = 35 ∷ 43 ∷ 99 ∷ 101 ∷ 108 ∷ 115 ∷ 117 ∷ 122 ∷ 90 ∷ []

abbrev pub luz_pairs : List ℕ
luz_pairs = 2 ∷ 0 ∷ 3 ∷ 3 ∷ 4 ∷ 4 ∷ 5 ∷ 5 ∷ 6 ∷ 6 ∷ 7 ∷ 7 ∷ 9 ∷ 3 ∷ 9 ∷ 8 ∷ []

-- "One rule, Z becomes c just before +:0 e:e .. Columns Z:c, Z:z, +:0, e:e, any:any; rows 1: 3 2 1 1 1; 2: 3 2 4 1 1; 3: 0 0 5 0 0; 4: 3 2 1 0 1; 5: 0 0 0 1 0; states 1 to 4 final."
abbrev pub luz_table : List ℕ
luz_table =
    5 ∷ 5 ∷ 9 ∷ 3 ∷ 9 ∷ 8 ∷ 2 ∷ 0 ∷ 4 ∷ 4 ∷ 255 ∷ 255 ∷ 1 ∷ 1 ∷ 1 ∷ 1 ∷ 0
    ∷ 3 ∷ 2 ∷ 1 ∷ 1 ∷ 1 ∷ 3 ∷ 2 ∷ 4 ∷ 1 ∷ 1 ∷ 0 ∷ 0 ∷ 5 ∷ 0 ∷ 0 ∷ 3 ∷ 2 ∷ 1 ∷ 0 ∷ 1 ∷ 0 ∷ 0 ∷ 0 ∷ 1 ∷ 0 ∷ []

-- "Lexicon 0: entry 0 luZ, 1 luc, both to lexicon 1; lexicon 1: 2 empty, 3 +es, both end."
unfoldable pub luz_image : List ℕ
luz_image =
    image_of luz_letters luz_pairs luz_table
    ((entry_bytes (5 ∷ 7 ∷ 9 ∷ []) 1 0 ∷ entry_bytes (5 ∷ 7 ∷ 3 ∷ []) 1 1 ∷ [])
    ∷ (entry_bytes [] 255 2 ∷ entry_bytes (2 ∷ 4 ∷ 6 ∷ []) 255 3 ∷ [])
    ∷ [])

-- letters # t c i s, and one entry, s
unfoldable pub tc_with : List ℕ → List ℕ → List ℕ
tc_with pairs table = image_of (35 ∷ 116 ∷ 99 ∷ 105 ∷ 115 ∷ []) pairs table ((entry_bytes (5 ∷ []) 255 0 ∷ []) ∷ [])

-- "Source document 001 example 2.1 (t:c before i) .. Columns t:c, t:any, i:any, any:any; rows 1: 3 2 1 1; 2: 3 2 0 1; 3: 0 0 1 0; states 1, 2 final.
-- Pairs t:c, t:t, i:i, s:s"
unfoldable pub tc_image : List ℕ
tc_image =
    tc_with (2 ∷ 3 ∷ 2 ∷ 2 ∷ 4 ∷ 4 ∷ 5 ∷ 5 ∷ [])
    (4 ∷ 3 ∷ 2 ∷ 3 ∷ 2 ∷ 255 ∷ 4 ∷ 255 ∷ 255 ∷ 255 ∷ 1 ∷ 1 ∷ 0 ∷ 3 ∷ 2 ∷ 1 ∷ 1 ∷ 3 ∷ 2 ∷ 0 ∷ 1 ∷ 0 ∷ 0 ∷ 1 ∷ 0 ∷ [])

-- letters # s t, pairs s:s and t:t, and two entries, s and ts
unfoldable pub front_with : List ℕ → List ℕ
front_with table = image_of (35 ∷ 115 ∷ 116 ∷ []) (2 ∷ 2 ∷ 3 ∷ 3 ∷ []) table ((entry_bytes (2 ∷ []) 255 0 ∷ entry_bytes (3 ∷ 2 ∷ []) 255 1 ∷ []) ∷ [])

-- document 02, (a): "a rule that forbids s:s directly after the boundary". Columns #:#, s:s, any:any; rows 1: 2 1 1; 2: 2 0 1; both final.
unfoldable pub front_image : List ℕ
front_image = front_with (3 ∷ 2 ∷ 1 ∷ 1 ∷ 2 ∷ 2 ∷ 255 ∷ 255 ∷ 1 ∷ 1 ∷ 2 ∷ 1 ∷ 1 ∷ 2 ∷ 0 ∷ 1 ∷ [])

-- a rule that fails on the boundary at the front, and would let every end pass. Columns #:#, any:any; rows 1: 0 2; 2: 2 2; both final.
unfoldable pub dead_image : List ℕ
dead_image = front_with (2 ∷ 2 ∷ 1 ∷ 1 ∷ 255 ∷ 255 ∷ 1 ∷ 1 ∷ 0 ∷ 2 ∷ 2 ∷ 2 ∷ [])

-- document 02, (b): "A typing slip left a letter in an entry which no pair has on its lexical side." Byte 2567 is the third letter of entry 0: luz for luZ.
unfoldable pub slip_image : List ℕ
slip_image = sealed_image (set luz_image 2567 8)

-- letters # a e i n q r y +, pairs a:a e:e i:e i:i n:n q:q +:0, and entries iq, inq and ia, with sets as their letters
unfoldable pub sets_with : List (List ℕ) → List ℕ → List ℕ
sets_with sets table =
    image_with (map set_bytes sets) (35 ∷ 97 ∷ 101 ∷ 105 ∷ 110 ∷ 113 ∷ 114 ∷ 121 ∷ 43 ∷ []) (2 ∷ 2 ∷ 3 ∷ 3 ∷ 4 ∷ 3 ∷ 4 ∷ 4 ∷ 5 ∷ 5 ∷ 6 ∷ 6 ∷ 9 ∷ 0 ∷ []) table
    ((entry_bytes (4 ∷ 6 ∷ []) 255 0 ∷ entry_bytes (4 ∷ 5 ∷ 6 ∷ []) 255 1 ∷ entry_bytes (4 ∷ 2 ∷ []) 255 2 ∷ []) ∷ [])

-- document 02, (c): "The Quichua grammar of source document 001 speaks of postvelars and transparent sounds". Its rule 3, i:i /<= _ Ftr:@ CPos:@, over the
-- transparent y n r and the postvelar q. Columns i:e, i:i, Ftr:any, CPos:any, any:any; rows 1: 2 5 1 1 1; 2: 2 0 3 4 1; 3: 2 5 3 4 1; 4: 2 5 1 1 1;
-- 5: 2 5 6 0 1; 6: 2 5 1 0 1; all final.
unfoldable pub sets_image : List ℕ
sets_image =
    sets_with ((8 ∷ 5 ∷ 7 ∷ []) ∷ (6 ∷ []) ∷ [])
    (5 ∷ 6 ∷ 4 ∷ 3 ∷ 4 ∷ 4 ∷ 128 ∷ 255 ∷ 129 ∷ 255 ∷ 255 ∷ 255 ∷ 1 ∷ 1 ∷ 1 ∷ 1 ∷ 1 ∷ 1
    ∷ 2 ∷ 5 ∷ 1 ∷ 1 ∷ 1 ∷ 2 ∷ 0 ∷ 3 ∷ 4 ∷ 1 ∷ 2 ∷ 5 ∷ 3 ∷ 4 ∷ 1 ∷ 2 ∷ 5 ∷ 1 ∷ 1 ∷ 1 ∷ 2 ∷ 5 ∷ 6 ∷ 0 ∷ 1 ∷ 2 ∷ 5 ∷ 1 ∷ 0 ∷ 1 ∷ [])
