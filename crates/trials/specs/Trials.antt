-- Document 01, "The luz grammar and other trials": the starred trials, and those of document 02, as rows of one theorem. Its proof is `starred` in
-- proofs/Trials.antt.
use Rattle.std.specs.Prelude.{ℕ, ◌*◌, true, false, ◌≡◌, List, [], ◌∷◌, ◌++◌, replicate, set}
use Rattle.model.specs.Lists.{flat_map, number_bytes}
use Rattle.model.specs.Blocks.{check_of, sealed_image}
use Rattle.model.specs.RuleTables.{columns_of}
use Rattle.model.specs.GrammarOf.{grammar_of}
use Rattle.model.specs.Readings.{Reading, steps, word, passes}
use Rattle.model.specs.Query.{analysis, generation}
use Rattle.model.specs.Refusals.{Verdict, image_verdict}
use Rattle.model.specs.Rows.{Reply, reply_number}
use Rattle.model.specs.Calls.{Sealing, sealing_reply, after_sealing, all_readings, listing_reply, after_listing}
use Rattle.model.specs.Spelling.{word_spelled}
use Rattle.model.specs.Beside.{Judgement, judged, FormReply, form_reply, viewed, Spelling, spelling_reply, after_spelling}
use Rattle.model.specs.Samples.{luz_image, tc_image, front_image, dead_image, slip_image, sets_with, sets_image}

abbrev pub luz : List ℕ
luz = 5 ∷ 7 ∷ 8 ∷ []

abbrev pub luces : List ℕ
luces = 5 ∷ 7 ∷ 3 ∷ 4 ∷ 6 ∷ []

abbrev pub luzes : List ℕ
luzes = 5 ∷ 7 ∷ 8 ∷ 4 ∷ 6 ∷ []

abbrev pub luc : List ℕ
luc = 5 ∷ 7 ∷ 3 ∷ []

abbrev pub reading : List ℕ → List ℕ → Reading
reading path pairing = record { path = path; pairing = pairing }

abbrev pub luces_of_lu_z : Reading
luces_of_lu_z = reading (0 ∷ 3 ∷ []) (3 ∷ 5 ∷ 6 ∷ 0 ∷ 2 ∷ 4 ∷ [])

abbrev pub luces_of_luc : Reading
luces_of_luc = reading (1 ∷ 3 ∷ []) (3 ∷ 5 ∷ 1 ∷ 0 ∷ 2 ∷ 4 ∷ [])

-- code points, two bytes each; L is 76, U 85, C 67, E 69, S 83, z 122, Z 90
abbrev pub points : List ℕ → List ℕ
points cs = flat_map number_bytes cs

abbrev pub capitals : List ℕ
capitals = points (76 ∷ 85 ∷ 67 ∷ 69 ∷ 83 ∷ [])

-- the places of a row that no entry or pair takes, each 65535
abbrev pub unused : ℕ → List ℕ
unused n = replicate (n * 2) 255

pub record Starred : Type 0 where
  pub luz_accepted : image_verdict luz_image ≡ Verdict.accepted
  -- "luz: path 0 2, pairs 3 5 7; steps 0 3 5 7 2."
  pub luz_readings : all_readings luz_image (analysis luz) ≡ reading (0 ∷ 2 ∷ []) (3 ∷ 5 ∷ 7 ∷ []) ∷ []
  pub luz_steps : steps (grammar_of luz_image) (reading (0 ∷ 2 ∷ []) (3 ∷ 5 ∷ 7 ∷ [])) ≡ 0 ∷ 3 ∷ 5 ∷ 7 ∷ 2 ∷ []
  -- "luces: 0 3 with 3 5 6 0 2 4, then 1 3 with 3 5 1 0 2 4; C reply 9."
  pub luces_readings : all_readings luz_image (analysis luces) ≡ luces_of_lu_z ∷ luces_of_luc ∷ []
  pub luces_reply : listing_reply luz_image (analysis luces) 2 ≡ Reply.all 2
  pub luces_number : reply_number (listing_reply luz_image (analysis luces) 2) ≡ 9
  -- "luces with one row lent: more 1, row 0 3."
  pub luces_more : listing_reply luz_image (analysis luces) 1 ≡ Reply.more 1
  pub luces_row : after_listing luz_image (analysis luces) (replicate 116 7)
      ≡ 2 ∷ 0 ∷ 0 ∷ 0 ∷ 3 ∷ 0 ∷ (unused 14 ++ (6 ∷ 0 ∷ 3 ∷ 0 ∷ 5 ∷ 0 ∷ 6 ∷ 0 ∷ 0 ∷ 0 ∷ 2 ∷ 0 ∷ 4 ∷ 0 ∷ unused 34))
  -- "luzes: none."
  pub luzes_none : listing_reply luz_image (analysis luzes) 64 ≡ Reply.none
  -- "luc: path 1 2 only."
  pub luc_readings : all_readings luz_image (analysis luc) ≡ reading (1 ∷ 2 ∷ []) (3 ∷ 5 ∷ 1 ∷ []) ∷ []
  -- "Path 0 3 generates luces alone."
  pub path_readings : all_readings luz_image (generation (0 ∷ 0 ∷ 3 ∷ 0 ∷ [])) ≡ luces_of_lu_z ∷ []
  pub path_reply : listing_reply luz_image (generation (0 ∷ 0 ∷ 3 ∷ 0 ∷ [])) 1 ≡ Reply.all 1
  pub path_word : word (grammar_of luz_image) luces_of_lu_z ≡ luces
  -- "Zero block: check 1." "Byte 509 alone 255: 64,530."
  pub zero_check : check_of (replicate 512 0) ≡ 1
  pub last_byte_check : check_of (replicate 509 0 ++ (255 ∷ 0 ∷ 0 ∷ [])) ≡ 64530
  -- "t:c i:i passes, t:t i:i fails, t:c alone fails, t:t alone passes."
  pub tc_accepted : image_verdict tc_image ≡ Verdict.accepted
  pub tc_before_i : passes (grammar_of tc_image) (0 ∷ 2 ∷ []) ≡ true
  pub tt_before_i : passes (grammar_of tc_image) (1 ∷ 2 ∷ []) ≡ false
  pub tc_alone : passes (grammar_of tc_image) (0 ∷ []) ≡ false
  pub tt_alone : passes (grammar_of tc_image) (1 ∷ []) ≡ true
  -- document 02, (a): "A new trial has a rule that forbids s:s directly after the boundary."
  pub front_accepted : image_verdict front_image ≡ Verdict.accepted
  pub front_s : passes (grammar_of front_image) (0 ∷ []) ≡ false
  pub front_ts : passes (grammar_of front_image) (1 ∷ 0 ∷ []) ≡ true
  pub front_s_none : listing_reply front_image (analysis (2 ∷ [])) 64 ≡ Reply.none
  pub front_ts_readings : all_readings front_image (analysis (3 ∷ 2 ∷ [])) ≡ reading (1 ∷ []) (1 ∷ 0 ∷ []) ∷ []
  pub front_path_s : listing_reply front_image (generation (0 ∷ 0 ∷ [])) 64 ≡ Reply.none
  pub front_path_ts : listing_reply front_image (generation (1 ∷ 0 ∷ [])) 64 ≡ Reply.all 1
  -- a rule that is dead at the front leaves no reading, and refuses nothing
  pub dead_front_accepted : image_verdict dead_image ≡ Verdict.accepted
  pub dead_front_analysed : listing_reply dead_image (analysis (3 ∷ 2 ∷ [])) 64 ≡ Reply.none
  pub dead_front_generated : listing_reply dead_image (generation (1 ∷ 0 ∷ [])) 64 ≡ Reply.none
  pub dead_front_judged : judged dead_image (1 ∷ 0 ∷ []) (1 ∷ 0 ∷ []) ≡ Judgement.fails
  -- document 02, (b): "Such an image is to be refused by every call but sealing." 14 comes before a call's own refusals, and after 8 (form length 13)
  pub slip_checked : image_verdict slip_image ≡ Verdict.refused 14
  pub slip_analysed : listing_reply slip_image (analysis luc) 64 ≡ Reply.refused 14
  pub slip_generated : listing_reply slip_image (generation (1 ∷ 0 ∷ 2 ∷ 0 ∷ [])) 64 ≡ Reply.refused 14
  pub slip_judged : judged slip_image (1 ∷ 0 ∷ 2 ∷ 0 ∷ []) (3 ∷ 5 ∷ 1 ∷ []) ≡ Judgement.refused 14
  pub slip_form : form_reply slip_image 1 ≡ FormReply.refused 14
  pub slip_viewed : viewed slip_image 1 ≡ []
  pub slip_sealed : (sealing_reply slip_image ≡ Sealing.sealed) × (after_sealing slip_image ≡ slip_image)
  pub slip_bad_word : listing_reply slip_image (analysis (1 ∷ [])) 64 ≡ Reply.refused 14
  pub slip_and_8 : image_verdict (sealed_image (set slip_image 2580 13)) ≡ Verdict.refused 8
  -- document 02, (c), by rule 3 of source document 001: i:i q:q fails, i:e q:q passes, i:i n:n q:q fails, i:i a:a passes
  pub sets_accepted : image_verdict sets_image ≡ Verdict.accepted
  pub sets_ii_q : passes (grammar_of sets_image) (3 ∷ 5 ∷ []) ≡ false
  pub sets_ie_q : passes (grammar_of sets_image) (2 ∷ 5 ∷ []) ≡ true
  pub sets_ii_nq : passes (grammar_of sets_image) (3 ∷ 4 ∷ 5 ∷ []) ≡ false
  pub sets_ii_a : passes (grammar_of sets_image) (3 ∷ 0 ∷ []) ≡ true
  pub sets_readings : all_readings sets_image (analysis (3 ∷ 6 ∷ [])) ≡ reading (0 ∷ []) (2 ∷ 5 ∷ []) ∷ []
  pub sets_none : listing_reply sets_image (analysis (4 ∷ 6 ∷ [])) 64 ≡ Reply.none
  -- "A set may hold the null (bit 0) and the boundary (bit 1)": the columns that the pairs and the boundary take, of any:{null}, {boundary}:{boundary}, any:any
  pub null_and_boundary : columns_of (sets_with ((0 ∷ []) ∷ (1 ∷ []) ∷ []) (3 ∷ 1 ∷ 255 ∷ 128 ∷ 129 ∷ 129 ∷ 255 ∷ 255 ∷ 1 ∷ 1 ∷ 1 ∷ 1 ∷ [])) 0 ≡ 2 ∷ 2 ∷ 2 ∷ 2 ∷ 2 ∷ 2 ∷ 0 ∷ 1 ∷ []
  -- "narrowness still counts pairs": {n q}:any and {q a}:any both match two pairs, q:q among them
  pub tie_of_sets : image_verdict (sets_with ((5 ∷ 6 ∷ []) ∷ (6 ∷ 2 ∷ []) ∷ []) (3 ∷ 1 ∷ 128 ∷ 255 ∷ 129 ∷ 255 ∷ 255 ∷ 255 ∷ 1 ∷ 1 ∷ 1 ∷ 1 ∷ [])) ≡ Verdict.refused 7
  -- and never members: {q r y}:any matches q:q alone, as q:any does
  pub tie_with_letter : image_verdict (sets_with ((6 ∷ 7 ∷ 8 ∷ []) ∷ []) (3 ∷ 1 ∷ 128 ∷ 255 ∷ 6 ∷ 255 ∷ 255 ∷ 255 ∷ 1 ∷ 1 ∷ 1 ∷ 1 ∷ [])) ≡ Verdict.refused 7
  -- q:any is narrower than {n q}:any
  pub letter_narrower : columns_of (sets_with ((5 ∷ 6 ∷ []) ∷ []) (3 ∷ 1 ∷ 128 ∷ 255 ∷ 6 ∷ 255 ∷ 255 ∷ 255 ∷ 1 ∷ 1 ∷ 1 ∷ 1 ∷ [])) 0 ≡ 2 ∷ 2 ∷ 2 ∷ 2 ∷ 0 ∷ 1 ∷ 2 ∷ 2 ∷ []
  -- document 02, (m): LUCES spells luces, and "output bytes past it keep their values"; with a byte too few it is refused with 24, and nothing is written
  pub capitals_reply : spelling_reply luz_image capitals 7 ≡ Spelling.letters 5
  pub capitals_bytes : after_spelling luz_image capitals (replicate 7 200) ≡ luces ++ (200 ∷ 200 ∷ [])
  pub capitals_short : (spelling_reply luz_image capitals 4 ≡ Spelling.refused 24) × (after_spelling luz_image capitals (replicate 4 200) ≡ replicate 4 200)
  -- "so the letter Z of luZ stays": luZ, and LUZ, whose Z is that letter; Luz is luz
  pub Z-stays : (word_spelled luz_image (points (108 ∷ 117 ∷ 90 ∷ [])) ≡ 5 ∷ 7 ∷ 9 ∷ []) × (word_spelled luz_image (points (76 ∷ 85 ∷ 90 ∷ [])) ≡ 5 ∷ 7 ∷ 9 ∷ [])
  pub z_found : word_spelled luz_image (points (76 ∷ 117 ∷ 122 ∷ [])) ≡ luz
  -- "a code point with no letter, or with letter 1": k, the boundary, a surrogate
  pub no_letter : spelling_reply luz_image (points (108 ∷ 107 ∷ [])) 7 ≡ Spelling.refused 23
  pub boundary_letter : spelling_reply luz_image (points (108 ∷ 35 ∷ [])) 7 ≡ Spelling.refused 23
  pub surrogate : spelling_reply luz_image (points (55296 ∷ [])) 7 ≡ Spelling.refused 23
  -- an image that is refused is refused first
  pub slip_spelled : spelling_reply slip_image [] 0 ≡ Spelling.refused 14
