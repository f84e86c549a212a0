-- Trials of document 02, (e), as rows of one theorem. Its proof is `starred` in proofs/Trials.antt.
use Rattle.std.specs.Prelude.{ℕ, ◌≡◌, List, [], ◌∷◌, ◌++◌, map, length, take, replicate, set}
use Rattle.model.specs.Lists.{below}
use Rattle.model.specs.Blocks.{block, block_check, block_total, sealed_image}
use Rattle.model.specs.GrammarOf.{grammar_of}
use Rattle.model.specs.Readings.{Reading, steps}
use Rattle.model.specs.Query.{analysis, generation}
use Rattle.model.specs.Refusals.{Verdict, image_verdict}
use Rattle.model.specs.Rows.{Reply, reply_number}
use Rattle.model.specs.Calls.{steps_of, all_readings, listing_reply}
use Rattle.model.specs.Samples.{luz_image}
use Rattle.conversion.specs.Conversion.{Conversion, converted_image, conversion_reply}
use Rattle.conversion_trials.specs.Images.{luz2, ending_image, two_ways, circle, empty_circle, nine_lexicons, one_entry}

abbrev pub reading : List ℕ → List ℕ → Reading
reading path pairing = record { path = path; pairing = pairing }

abbrev pub luces : List ℕ
luces = 5 ∷ 7 ∷ 3 ∷ 4 ∷ 6 ∷ []

abbrev pub luces_of_lu_z : Reading
luces_of_lu_z = reading (0 ∷ 2 ∷ []) (3 ∷ 5 ∷ 6 ∷ 0 ∷ 2 ∷ 4 ∷ [])

abbrev pub luces_of_luc : Reading
luces_of_luc = reading (1 ∷ 2 ∷ []) (3 ∷ 5 ∷ 1 ∷ 0 ∷ 2 ∷ 4 ∷ [])

-- l x by an entry that ends, the x put in; and by the empty entry after it
abbrev pub ended : Reading
ended = reading (0 ∷ []) (0 ∷ 2 ∷ [])

abbrev pub gone_on : Reading
gone_on = reading (0 ∷ 1 ∷ []) (0 ∷ 2 ∷ [])

pub record Starred : Type 0 where
  -- luz in form 2 without its empty entry: the paths are those of the entries that have letters
  pub luz2_accepted : image_verdict luz2 ≡ Verdict.accepted
  pub luz2_luz : all_readings luz2 (analysis (5 ∷ 7 ∷ 8 ∷ [])) ≡ reading (0 ∷ []) (3 ∷ 5 ∷ 7 ∷ []) ∷ []
  pub luz2_luc : all_readings luz2 (analysis (5 ∷ 7 ∷ 3 ∷ [])) ≡ reading (1 ∷ []) (3 ∷ 5 ∷ 1 ∷ []) ∷ []
  pub luz2_luces : all_readings luz2 (analysis luces) ≡ luces_of_lu_z ∷ luces_of_luc ∷ []
  pub luz2_number : reply_number (listing_reply luz2 (analysis luces) 2) ≡ 9
  pub luz2_more : listing_reply luz2 (analysis luces) 1 ≡ Reply.more 1
  pub luz2_luzes : listing_reply luz2 (analysis (5 ∷ 7 ∷ 8 ∷ 4 ∷ 6 ∷ [])) 64 ≡ Reply.none
  pub luz2_path : listing_reply luz2 (generation (2 ∷ 0 ∷ [])) 64 ≡ Reply.refused 12
  -- "15, conversion back where an entry has more than one way on, an ending counted as a way", whatever the target, and after 14
  pub luz2_back : conversion_reply luz2 3072 ≡ Conversion.refused 15
  pub luz2_no_target : conversion_reply luz2 0 ≡ Conversion.refused 15
  pub luz2_slip : conversion_reply (sealed_image (set luz2 2567 8)) 3072 ≡ Conversion.refused 14
  -- "In its step list an ending stands where the next entry would open, ahead of any lexical-null pair, and counts below every entry number."
  pub ending_first : all_readings ending_image (analysis (2 ∷ 3 ∷ [])) ≡ ended ∷ gone_on ∷ []
  pub ending_steps_lem : map (steps_of ending_image) (ended ∷ gone_on ∷ []) ≡ (1 ∷ 0 ∷ 0 ∷ 2 ∷ []) ∷ (1 ∷ 0 ∷ 2 ∷ 0 ∷ 2 ∷ []) ∷ []
  -- document 01's step lists would have them the other way round
  pub plain_steps : map (steps (grammar_of ending_image)) (gone_on ∷ ended ∷ []) ≡ (0 ∷ 0 ∷ 1 ∷ 2 ∷ []) ∷ (0 ∷ 0 ∷ 2 ∷ []) ∷ []
  pub ending_alone : all_readings ending_image (analysis (2 ∷ [])) ≡ reading (0 ∷ []) (0 ∷ []) ∷ reading (0 ∷ 1 ∷ []) (0 ∷ []) ∷ []
  -- two lexicons, the lower first; "A path may stop only at a marked entry."
  pub two_ways_lem : all_readings two_ways (analysis (2 ∷ 3 ∷ [])) ≡ reading (0 ∷ 2 ∷ []) (0 ∷ 1 ∷ []) ∷ reading (0 ∷ 3 ∷ []) (0 ∷ 1 ∷ []) ∷ []
  pub two_ways_l : all_readings two_ways (analysis (2 ∷ [])) ≡ reading (0 ∷ 1 ∷ []) (0 ∷ []) ∷ []
  pub two_ways_path : listing_reply two_ways (generation (0 ∷ 0 ∷ [])) 64 ≡ Reply.refused 12
  -- an entry that goes on with itself: at most 16 entries
  pub circle_16 : all_readings circle (analysis (replicate 16 2)) ≡ reading (replicate 16 0) (replicate 16 0) ∷ []
  pub circle_17 : listing_reply circle (analysis (replicate 17 2)) 64 ≡ Reply.none
  -- 16 places for l and up to 15 empty entries before and after it: 1 + 2 + .. + 16 paths
  pub empty_circle_lem : length (all_readings empty_circle (analysis (2 ∷ []))) ≡ 136
  pub empty_circle_first : take 3 (map (λ r. r.path) (all_readings empty_circle (analysis (2 ∷ []))))
      ≡ (replicate 15 0 ++ (1 ∷ [])) ∷ (replicate 14 0 ++ (1 ∷ [])) ∷ (replicate 14 0 ++ (1 ∷ 0 ∷ [])) ∷ []
  -- "bit b of byte j naming lexicon 8j + b": 8b + j would read lexicon 1
  pub nine_ll : all_readings nine_lexicons (analysis (2 ∷ 2 ∷ [])) ≡ reading (0 ∷ 8 ∷ []) (0 ∷ 0 ∷ []) ∷ []
  pub nine_lx : listing_reply nine_lexicons (analysis (2 ∷ 3 ∷ [])) 64 ≡ Reply.none
  -- a way to an empty lexicon is a way
  pub empty_lexicon : all_readings (one_entry 1 (1 ∷ []) 1) (analysis (2 ∷ [])) ≡ reading (0 ∷ []) (0 ∷ []) ∷ []
  pub empty_back : conversion_reply (one_entry 1 (1 ∷ []) 1) 2560 ≡ Conversion.refused 15
  pub empty_only : listing_reply (one_entry 0 (1 ∷ []) 1) (analysis (2 ∷ [])) 64 ≡ Reply.none
  pub empty_only_back : conversion_reply (one_entry 0 (1 ∷ []) 1) 2560 ≡ Conversion.converted
  -- "A bit for a missing lexicon, or an entry with neither bit nor end mark, is refused with 8"; an end mark is 0 or 1
  pub no_way : image_verdict (one_entry 0 [] 0) ≡ Verdict.refused 8
  pub mark_2 : image_verdict (one_entry 2 (0 ∷ []) 0) ≡ Verdict.refused 8
  pub missing_lexicon : image_verdict (one_entry 1 (1 ∷ []) 0) ≡ Verdict.refused 8
  pub missing_63 : image_verdict (one_entry 1 (63 ∷ []) 62) ≡ Verdict.refused 8
  pub lexicon_63 : image_verdict (one_entry 1 (63 ∷ []) 63) ≡ Verdict.accepted
  -- forms 0, 3 and 257; luz called form 2, and luz in form 2 called form 1
  pub form_0 : image_verdict (sealed_image (set luz_image 4 0)) ≡ Verdict.refused 3
  pub form_3 : image_verdict (sealed_image (set luz_image 4 3)) ≡ Verdict.refused 3
  pub form_257 : image_verdict (sealed_image (set luz_image 5 1)) ≡ Verdict.refused 3
  pub luz_as_2 : image_verdict (sealed_image (set luz_image 4 2)) ≡ Verdict.refused 8
  pub converted_as_1 : image_verdict (sealed_image (set (converted_image luz_image) 4 1)) ≡ Verdict.refused 3
  -- luz there and back: "From 1 to 2 and back gives the same bytes"
  pub luz_there : conversion_reply luz_image 3072 ≡ Conversion.converted
  pub luz_other_length : conversion_reply luz_image 2560 ≡ Conversion.refused 17
  pub luz_length : length (converted_image luz_image) ≡ 3072
  pub luz_checks : map (λ k. block_check (block (converted_image luz_image) k)) (below 6) ≡ 250 ∷ 11848 ∷ 1207 ∷ 9415 ∷ 52 ∷ 2677 ∷ []
  pub luz_accepted : image_verdict (converted_image luz_image) ≡ Verdict.accepted
  pub luz_back_reply : conversion_reply (converted_image luz_image) 3072 ≡ Conversion.converted
  pub luz_back : converted_image (converted_image luz_image) ≡ luz_image
  -- "16, a converted image of more than 128 blocks": one lexicon and no rule, 2,604 entries and one more
  pub blocks_128 : block_total (record { form = 2; letters = 2; pairs = 1; rules = 0; lexicons = 1; entries = 2604; sets = 0 }) ≡ 128
  pub blocks_129 : block_total (record { form = 2; letters = 2; pairs = 1; rules = 0; lexicons = 1; entries = 2605; sets = 0 }) ≡ 129
