-- Document 01's table of refusals, its small example for each number and its neighbours, and those of 14, 23 and 24; its other trials; and its traps.
use Prim.Native.Nat.{ℕ}
use mathlib.Core.Path.{◌≡◌, refl}
use mathlib.Core.List.{List, [], ◌∷◌, ◌++◌, map}
use lib.ListN.{length, take, replicate, set}
use Rattle.model.specs.Lists.{below, flat_map, number_bytes}
use Rattle.model.specs.Blocks.{sealed_image}
use Rattle.model.specs.GrammarOf.{grammar_of}
use Rattle.model.specs.Readings.{Reading}
use Rattle.model.specs.Query.{analysis, generation}
use Rattle.model.specs.Refusals.{Verdict, first_failing, image_verdict, point_tests}
use Rattle.model.specs.Rows.{Reply}
use Rattle.model.specs.Calls.{Sealing, sealing_reply, after_sealing, all_readings, listing_reply}
use Rattle.model.specs.Beside.{Judgement, judged, FormReply, form_reply, viewed}
use Rattle.model.specs.Lines.{Line, line_of, lines_of, decimal, printed_reply, printed_line, printed}
use Rattle.model.specs.Samples.{entry_bytes, image_of, luz_letters, luz_pairs, luz_table, luz_image, tc_with, tc_image, sets_image}
use Rattle.trials.specs.Trials.{reading, points}
use Rattle.model.proofs.Front.{at_front}
use Rattle.model.proofs.Computed.{computed}

-- the luz image with one byte changed, and sealed again
abbrev changed : ℕ → ℕ → Verdict
changed i b = image_verdict (sealed_image (set luz_image i b))

refusal_1 : map image_verdict (take 511 luz_image ∷ [] ∷ (luz_image ++ (0 ∷ [])) ∷ []) ≡ Verdict.refused 1 ∷ Verdict.refused 1 ∷ Verdict.refused 1 ∷ []
unfolding computed
refusal_1 = refl

-- byte 7 of block 0; the number of block 1; the check of the last block
refusal_2 : map (λ i. image_verdict (set luz_image i 1)) (7 ∷ 513 ∷ 3071 ∷ []) ≡ Verdict.refused 2 ∷ Verdict.refused 2 ∷ Verdict.refused 2 ∷ []
unfolding computed
refusal_2 = refl

-- form, by either byte; L = 1; P; R; X; E; sets where there is no block of them; a kind; a record count; unused bytes; a block too many; a block of sets where the count is 0
refusal_3 : (changed 4 3 ∷ changed 5 1 ∷ changed 6 1 ∷ changed 8 9 ∷ changed 10 2 ∷ changed 12 1 ∷ changed 14 5 ∷ changed 16 1 ∷ changed 514 3 ∷ changed 1027 9 ∷ changed 18 1
    ∷ changed 3069 1 ∷ image_verdict (sealed_image (luz_image ++ replicate 512 0)) ∷ image_verdict (sealed_image (set sets_image 16 0)) ∷ []) ≡ replicate 14 (Verdict.refused 3)
unfolding computed
refusal_3 = refl

-- letters 2 and 3 both 99; a code point 0; 55339, which is within 55296-57343
refusal_4 : (changed 518 99 ∷ changed 518 0 ∷ changed 519 216 ∷ []) ≡ replicate 3 (Verdict.refused 4)
unfolding computed
refusal_4 = refl

-- 0:0; a pair with the boundary; a pair above L; a pair repeated
refusal_5 : (changed 1028 0 ∷ changed 1030 1 ∷ changed 1031 10 ∷ image_verdict (tc_with (2 ∷ 3 ∷ 2 ∷ 2 ∷ 2 ∷ 3 ∷ []) (1 ∷ 1 ∷ 255 ∷ 255 ∷ 1 ∷ 1 ∷ [])) ∷ []) ≡ replicate 4 (Verdict.refused 5)
unfolding computed
refusal_5 = refl

-- S = 2, next state 3; a column side; a mark; a byte after the last row; letter 10 in a set where L is 9; set 2 named where there are two
refusal_6 : (image_verdict (tc_with (2 ∷ 3 ∷ []) (1 ∷ 2 ∷ 255 ∷ 255 ∷ 1 ∷ 1 ∷ 3 ∷ 0 ∷ [])) ∷ changed 1542 10 ∷ changed 1552 2 ∷ changed 1582 1 ∷ image_verdict (sealed_image (set sets_image 1541 4)) ∷ image_verdict (sealed_image (set sets_image 2058 130)) ∷ []) ≡ replicate 6 (Verdict.refused 6)
unfolding computed
refusal_6 = refl

-- t:any and any:t for t:t only; no column for i:i; none for the boundary; two equal columns
refusal_7 : map (λ t. image_verdict (tc_with (2 ∷ 2 ∷ 4 ∷ 4 ∷ []) t)) ((3 ∷ 1 ∷ 2 ∷ 255 ∷ 255 ∷ 2 ∷ 255 ∷ 255 ∷ 1 ∷ 1 ∷ 1 ∷ 1 ∷ []) ∷ (2 ∷ 1 ∷ 2 ∷ 2 ∷ 1 ∷ 1 ∷ 1 ∷ 1 ∷ 1 ∷ []) ∷ (2 ∷ 1 ∷ 2 ∷ 2 ∷ 4 ∷ 4 ∷ 1 ∷ 1 ∷ 1 ∷ []) ∷ (2 ∷ 1 ∷ 255 ∷ 255 ∷ 255 ∷ 255 ∷ 1 ∷ 1 ∷ 1 ∷ []) ∷ [])
    ≡ replicate 4 (Verdict.refused 7)
unfolding computed
refusal_7 = refl

-- form length 13; a letter above L; a byte after the form; a continuation; counts that do not add up
refusal_8 : (changed 2564 13 ∷ changed 2565 10 ∷ changed 2568 2 ∷ changed 2577 2 ∷ changed 2052 3 ∷ []) ≡ replicate 5 (Verdict.refused 8)
unfolding computed
refusal_8 = refl

-- z on surface sides alone: the first letter of entry 0, a letter of entry 2, which was empty, and the last letter of the last entry. Pairs l:l and 0:s and an entry ls: s is only inserted.
-- A twelfth letter; the 32nd entry, the first of the second block.
refusal_14 : (changed 2565 8 ∷ image_verdict (sealed_image (set (set luz_image 2596 1) 2597 8)) ∷ changed 2615 8 ∷ image_verdict (image_of luz_letters (5 ∷ 5 ∷ 0 ∷ 6 ∷ []) (1 ∷ 1 ∷ 255 ∷ 255 ∷ 1 ∷ 1 ∷ []) ((entry_bytes (5 ∷ 6 ∷ []) 255 0 ∷ []) ∷ [])) ∷ image_verdict (image_of luz_letters luz_pairs luz_table ((entry_bytes (replicate 11 5 ++ (8 ∷ [])) 255 0 ∷ []) ∷ [])) ∷ image_verdict (image_of luz_letters luz_pairs luz_table ((replicate 31 (entry_bytes (5 ∷ []) 255 0) ++ (entry_bytes (8 ∷ []) 255 0 ∷ [])) ∷ [])) ∷ [])
    ≡ replicate 6 (Verdict.refused 14)
unfolding computed
refusal_14 = refl

-- two tests fail: the first in order, over the whole image, is told. (A table with two equal columns and a next state out of range fails 6 and 7.)
first_in_order : (image_verdict (take 511 (set luz_image 7 1)) ∷ image_verdict (set luz_image 6 1) ∷ image_verdict (sealed_image (set (set luz_image 6 1) 516 0)) ∷ image_verdict (sealed_image (set (set luz_image 518 99) 1028 0)) ∷ image_verdict (sealed_image (set (set luz_image 1028 0) 1542 10)) ∷ image_verdict (tc_with (2 ∷ 2 ∷ []) (2 ∷ 1 ∷ 255 ∷ 255 ∷ 255 ∷ 255 ∷ 1 ∷ 2 ∷ 1 ∷ [])) ∷ image_verdict (sealed_image (set (tc_with (2 ∷ 2 ∷ []) (2 ∷ 1 ∷ 255 ∷ 255 ∷ 255 ∷ 255 ∷ 1 ∷ 1 ∷ 1 ∷ [])) 2564 13)) ∷ [])
    ≡ Verdict.refused 1 ∷ Verdict.refused 2 ∷ Verdict.refused 3 ∷ Verdict.refused 4 ∷ Verdict.refused 5 ∷ Verdict.refused 6 ∷ Verdict.refused 7 ∷ []
unfolding computed
first_in_order = refl

-- sealing: 1 alone, and nothing written
sealing : (sealing_reply (7 ∷ []) ≡ Sealing.refused 1) × (after_sealing (7 ∷ []) ≡ 7 ∷ []) × (sealing_reply (set luz_image 7 1) ≡ Sealing.sealed) × (after_sealing (set luz_image 510 77) ≡ luz_image)
unfolding computed
sealing = (refl, refl, refl, refl)

-- luz and t:c stay in state 1 at the front: what `front_idle` asks of each rule
fronts_idle : (at_front (grammar_of luz_image) 0 ≡ 1) × (at_front (grammar_of tc_image) 0 ≡ 1)
unfolding computed
fronts_idle = (refl, refl)

-- a listing's replies with 64 rows lent
abbrev analysed : List ℕ → Reply
analysed word = listing_reply luz_image (analysis word) 64

abbrev generated : List ℕ → Reply
generated path = listing_reply luz_image (generation (flat_map number_bytes path)) 64

-- the empty word, 33 letters, 33 bad ones; 32 letters are read
refusal_9 : map analysed ([] ∷ replicate 33 5 ∷ replicate 33 1 ∷ replicate 32 5 ∷ []) ≡ Reply.refused 9 ∷ Reply.refused 9 ∷ Reply.refused 9 ∷ Reply.none ∷ []
unfolding computed
refusal_9 = refl

-- of code points: none, an odd byte, 32 and an odd byte, 33, 33 without a letter; 32 are spelled
points_9 : map (λ p. first_failing (point_tests luz_image p 40)) ([] ∷ (108 ∷ []) ∷ (points (replicate 32 108) ++ (0 ∷ [])) ∷ points (replicate 33 108) ∷ points (replicate 33 107) ∷ points (replicate 32 76) ∷ [])
    ≡ Verdict.refused 9 ∷ Verdict.refused 9 ∷ Verdict.refused 9 ∷ Verdict.refused 9 ∷ Verdict.refused 9 ∷ Verdict.accepted ∷ []
unfolding computed
points_9 = refl

-- k and no room: 23 comes first; the last surrogate, 0, 65535; + and Z are letters; room for just the word, and a byte less
points_23_24 : (first_failing (point_tests luz_image (points (107 ∷ [])) 0) ∷ first_failing (point_tests luz_image (points (57343 ∷ [])) 1) ∷ first_failing (point_tests luz_image (points (0 ∷ [])) 1) ∷ first_failing (point_tests luz_image (points (65535 ∷ [])) 1) ∷ first_failing (point_tests luz_image (points (43 ∷ 90 ∷ [])) 2) ∷ first_failing (point_tests luz_image (points (43 ∷ 90 ∷ [])) 1) ∷ [])
    ≡ Verdict.refused 23 ∷ Verdict.refused 23 ∷ Verdict.refused 23 ∷ Verdict.refused 23 ∷ Verdict.accepted ∷ Verdict.refused 24 ∷ []
unfolding computed
points_23_24 = refl

-- letter 1, letter 0, a letter above L; letters L and 2 are read
refusal_10 : map analysed ((1 ∷ []) ∷ (5 ∷ 0 ∷ []) ∷ (10 ∷ []) ∷ (9 ∷ []) ∷ (2 ∷ []) ∷ []) ≡ Reply.refused 10 ∷ Reply.refused 10 ∷ Reply.refused 10 ∷ Reply.none ∷ Reply.none ∷ []
unfolding computed
refusal_10 = refl

-- no entry, 17 entries, an odd count of bytes (also with 16 entries)
refusal_11 : (generated [] ∷ generated (replicate 17 0) ∷ listing_reply luz_image (generation (0 ∷ 0 ∷ 3 ∷ [])) 64 ∷ listing_reply luz_image (generation (replicate 33 0)) 64 ∷ []) ≡ replicate 4 (Reply.refused 11)
unfolding computed
refusal_11 = refl

-- an inner entry with 255; a missing entry; a path that begins in lexicon 1; one that does not end; one that is not linked; 16 entries
refusal_12 : map generated ((0 ∷ 2 ∷ 3 ∷ []) ∷ (0 ∷ 4 ∷ []) ∷ (65535 ∷ []) ∷ (3 ∷ []) ∷ (0 ∷ []) ∷ (0 ∷ 1 ∷ 3 ∷ []) ∷ replicate 16 0 ∷ []) ≡ replicate 7 (Reply.refused 12)
unfolding computed
refusal_12 = refl

-- the judge: 11, 12, then 13 for no pair, 41 pairs, or pair number P
abbrev judged_luz : List ℕ → List ℕ → Judgement
judged_luz path pairing = judged luz_image (flat_map number_bytes path) pairing

refusal_13 : (judged_luz (0 ∷ 2 ∷ []) [] ∷ judged_luz (0 ∷ 2 ∷ []) (replicate 41 3) ∷ judged_luz (0 ∷ 2 ∷ []) (8 ∷ []) ∷ judged_luz [] (8 ∷ []) ∷ judged_luz (0 ∷ []) (8 ∷ []) ∷ judged [] [] [] ∷ [])
    ≡ Judgement.refused 13 ∷ Judgement.refused 13 ∷ Judgement.refused 13 ∷ Judgement.refused 11 ∷ Judgement.refused 12 ∷ Judgement.refused 1 ∷ []
unfolding computed
refusal_13 = refl

-- luz, luces of luZ, luzes of luZ, luc by luZ, 40 pairs, a part of luz
judgements : (judged_luz (0 ∷ 2 ∷ []) (3 ∷ 5 ∷ 7 ∷ []) ∷ judged_luz (0 ∷ 3 ∷ []) (3 ∷ 5 ∷ 6 ∷ 0 ∷ 2 ∷ 4 ∷ []) ∷ judged_luz (0 ∷ 3 ∷ []) (3 ∷ 5 ∷ 7 ∷ 0 ∷ 2 ∷ 4 ∷ []) ∷ judged_luz (0 ∷ 2 ∷ []) (3 ∷ 5 ∷ 6 ∷ []) ∷ judged_luz (0 ∷ 2 ∷ []) (replicate 40 3) ∷ judged_luz (0 ∷ 2 ∷ []) (3 ∷ 5 ∷ []) ∷ [])
    ≡ Judgement.holds ∷ Judgement.holds ∷ Judgement.fails ∷ Judgement.fails ∷ Judgement.fails ∷ Judgement.fails ∷ []
unfolding computed
judgements = refl

-- the entry view and its companion; 12 for a missing entry only
views : (map (viewed luz_image) (0 ∷ 1 ∷ 2 ∷ 3 ∷ 4 ∷ []) ≡ (5 ∷ 7 ∷ 9 ∷ []) ∷ (5 ∷ 7 ∷ 3 ∷ []) ∷ [] ∷ (2 ∷ 4 ∷ 6 ∷ []) ∷ [] ∷ [])
    × (map (form_reply luz_image) (0 ∷ 2 ∷ 3 ∷ 4 ∷ []) ≡ FormReply.letters 3 ∷ FormReply.letters 0 ∷ FormReply.letters 3 ∷ FormReply.refused 12 ∷ [])
    × (form_reply [] 0 ≡ FormReply.refused 1)
unfolding computed
views = (refl, refl, refl)

-- "An entry l with eight + reads as l; with nine, none.": surface nulls
abbrev plus : ℕ → List ℕ
plus n = image_of luz_letters luz_pairs luz_table ((entry_bytes (5 ∷ replicate n 2) 255 0 ∷ []) ∷ [])

pluses : (all_readings (plus 8) (analysis (5 ∷ [])) ≡ reading (0 ∷ []) (3 ∷ replicate 8 0) ∷ []) × (all_readings (plus 9) (analysis (5 ∷ [])) ≡ [])
unfolding computed
pluses = (refl, refl)

-- and lexical nulls: pairs l:l and 0:s, an entry l, a rule that lets all pass; l and then n times s
abbrev inserting : ℕ → List Reading
inserting n = all_readings (image_of luz_letters (5 ∷ 5 ∷ 0 ∷ 6 ∷ []) (1 ∷ 1 ∷ 255 ∷ 255 ∷ 1 ∷ 1 ∷ []) ((entry_bytes (5 ∷ []) 255 0 ∷ []) ∷ [])) (analysis (5 ∷ replicate n 6))

insertions : (inserting 8 ≡ reading (0 ∷ []) (0 ∷ replicate 8 1) ∷ []) × (inserting 9 ≡ [])
unfolding computed
insertions = (refl, refl)

-- "Words of 32 and 33 letters, paths of 16 and 17": an entry ll that goes on, and two that end, ll and lll
abbrev long : List ℕ
long = image_of luz_letters luz_pairs luz_table ((entry_bytes (5 ∷ 5 ∷ []) 0 0 ∷ entry_bytes (5 ∷ 5 ∷ []) 255 0 ∷ entry_bytes (5 ∷ 5 ∷ 5 ∷ []) 255 0 ∷ []) ∷ [])

longest : (listing_reply long (analysis (replicate 32 5)) 64 ≡ Reply.all 1) × (listing_reply long (generation (flat_map number_bytes (replicate 15 0 ++ (1 ∷ [])))) 64 ≡ Reply.all 1) × (listing_reply long (generation (flat_map number_bytes (replicate 15 0 ++ (2 ∷ [])))) 64 ≡ Reply.none)
    × (listing_reply long (analysis (replicate 33 5)) 64 ≡ Reply.refused 9) × (listing_reply long (generation (flat_map number_bytes (replicate 16 0 ++ (1 ∷ [])))) 64 ≡ Reply.refused 11)
unfolding computed
longest = (refl, refl, refl, refl, refl)

-- more entries than one block holds, all spelled l: a second path with an equal pairing is another reading
abbrev many : ℕ → List ℕ
many n = image_of luz_letters luz_pairs (1 ∷ 1 ∷ 255 ∷ 255 ∷ 1 ∷ 1 ∷ []) (replicate n (entry_bytes (5 ∷ []) 255 0) ∷ [])

manies : (image_verdict (many 65) ≡ Verdict.accepted) × (length (all_readings (many 65) (analysis (5 ∷ []))) ≡ 65) × (map (listing_reply (many 65) (analysis (5 ∷ []))) (0 ∷ 64 ∷ 65 ∷ []) ≡ Reply.more 0 ∷ Reply.more 64 ∷ Reply.all 65 ∷ [])
    × (take 9 (printed_line (many 65) (Line.letters (5 ∷ []))) ≡ printed_reply (Reply.more 64) ++ (48 ∷ [])) × (map (viewed (many 65)) (30 ∷ 31 ∷ 64 ∷ 65 ∷ []) ≡ (5 ∷ []) ∷ (5 ∷ []) ∷ (5 ∷ []) ∷ [] ∷ [])
unfolding computed
manies = (refl, refl, refl, refl, refl)

-- a boundary insertion stands once, after the entry that opens: l:l, 0:s, e:e over l and e
inserted : all_readings (image_of luz_letters (5 ∷ 5 ∷ 0 ∷ 6 ∷ 4 ∷ 4 ∷ []) (1 ∷ 1 ∷ 255 ∷ 255 ∷ 1 ∷ 1 ∷ []) ((entry_bytes (5 ∷ []) 1 0 ∷ []) ∷ (entry_bytes (4 ∷ []) 255 0 ∷ []) ∷ [])) (analysis (5 ∷ 6 ∷ 4 ∷ []))
    ≡ reading (0 ∷ 1 ∷ []) (0 ∷ 1 ∷ 2 ∷ []) ∷ []
unfolding computed
inserted = refl

-- the line program: "5 7 3 4 6" and "5 7 8 4 6", whole
lines : printed luz_image (53 ∷ 32 ∷ 55 ∷ 32 ∷ 51 ∷ 32 ∷ 52 ∷ 32 ∷ 54 ∷ 10 ∷ 53 ∷ 32 ∷ 55 ∷ 32 ∷ 56 ∷ 32 ∷ 52 ∷ 32 ∷ 54 ∷ [])
    ≡ 97 ∷ 108 ∷ 108 ∷ 32 ∷ 50 ∷ 10
    ∷ 48 ∷ 32 ∷ 51 ∷ 32 ∷ 124 ∷ 32 ∷ 51 ∷ 32 ∷ 53 ∷ 32 ∷ 54 ∷ 32 ∷ 48 ∷ 32 ∷ 50 ∷ 32 ∷ 52 ∷ 10
    ∷ 49 ∷ 32 ∷ 51 ∷ 32 ∷ 124 ∷ 32 ∷ 51 ∷ 32 ∷ 53 ∷ 32 ∷ 49 ∷ 32 ∷ 48 ∷ 32 ∷ 50 ∷ 32 ∷ 52 ∷ 10
    ∷ 110 ∷ 111 ∷ 110 ∷ 101 ∷ 32 ∷ 48 ∷ 10 ∷ []
unfolding computed
lines = refl

-- "more 3"
more_printed : printed_reply (Reply.more 3) ≡ 109 ∷ 111 ∷ 114 ∷ 101 ∷ 32 ∷ 51 ∷ 10 ∷ []
unfolding computed
more_printed = refl

-- "" "0" "005" "255" "7 12"; "256" "0005" "1  2" " 1" "1 " "1\t2" "a" "/" ":"
lines_read : map line_of ([] ∷ (48 ∷ []) ∷ (48 ∷ 48 ∷ 53 ∷ []) ∷ (50 ∷ 53 ∷ 53 ∷ []) ∷ (55 ∷ 32 ∷ 49 ∷ 50 ∷ []) ∷ []) ≡ Line.letters [] ∷ Line.letters (0 ∷ []) ∷ Line.letters (5 ∷ []) ∷ Line.letters (255 ∷ []) ∷ Line.letters (7 ∷ 12 ∷ []) ∷ []
unfolding computed
lines_read = refl

lines_unread : map line_of ((50 ∷ 53 ∷ 54 ∷ []) ∷ (48 ∷ 48 ∷ 48 ∷ 53 ∷ []) ∷ (49 ∷ 32 ∷ 32 ∷ 50 ∷ []) ∷ (32 ∷ 49 ∷ []) ∷ (49 ∷ 32 ∷ []) ∷ (49 ∷ 9 ∷ 50 ∷ []) ∷ (97 ∷ []) ∷ (47 ∷ []) ∷ (58 ∷ []) ∷ []) ≡ replicate 9 Line.unread
unfolding computed
lines_unread = refl

-- 255 bytes are read, 256 are not
abbrev ones : ℕ → List ℕ
ones n = flat_map (λ i. 49 ∷ 32 ∷ []) (below n)

lines_long : (line_of (ones 127 ++ (49 ∷ [])) ≡ Line.letters (replicate 128 1)) × (line_of (ones 127 ++ (49 ∷ 49 ∷ [])) ≡ Line.unread)
unfolding computed
lines_long = (refl, refl)

-- no line, one without its end, one with it, an empty one between, an empty one alone
lines_split : map lines_of ([] ∷ (49 ∷ []) ∷ (49 ∷ 10 ∷ []) ∷ (49 ∷ 10 ∷ 10 ∷ 50 ∷ []) ∷ (10 ∷ []) ∷ [])
    ≡ [] ∷ ((49 ∷ []) ∷ []) ∷ ((49 ∷ []) ∷ []) ∷ ((49 ∷ []) ∷ [] ∷ (50 ∷ []) ∷ []) ∷ ([] ∷ []) ∷ []
unfolding computed
lines_split = refl

numerals : map decimal (0 ∷ 9 ∷ 10 ∷ 99 ∷ 100 ∷ 2799 ∷ []) ≡ (48 ∷ []) ∷ (57 ∷ []) ∷ (49 ∷ 48 ∷ []) ∷ (57 ∷ 57 ∷ []) ∷ (49 ∷ 48 ∷ 48 ∷ []) ∷ (50 ∷ 55 ∷ 57 ∷ 57 ∷ []) ∷ []
unfolding computed
numerals = refl

-- "unread" before any look at the image; an empty word; "refused 1" without an image
lines_refused : printed luz_image (97 ∷ 10 ∷ 10 ∷ []) ++ printed [] (97 ∷ 10 ∷ 53 ∷ 10 ∷ [])
    ≡ (117 ∷ 110 ∷ 114 ∷ 101 ∷ 97 ∷ 100 ∷ 10 ∷ 114 ∷ 101 ∷ 102 ∷ 117 ∷ 115 ∷ 101 ∷ 100 ∷ 32 ∷ 57 ∷ 10 ∷ [])
    ++ (117 ∷ 110 ∷ 114 ∷ 101 ∷ 97 ∷ 100 ∷ 10 ∷ 114 ∷ 101 ∷ 102 ∷ 117 ∷ 115 ∷ 101 ∷ 100 ∷ 32 ∷ 49 ∷ 10 ∷ [])
unfolding computed
lines_refused = refl
