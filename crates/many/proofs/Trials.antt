-- Many words in one call, computed from the definitions over luz: luces, luzes, a length byte of 33 and a letter that the grammar has not.
use Prim.Native.Nat.{ℕ, ◌-◌}
use mathlib.Core.Path.{◌≡◌, refl}
use mathlib.Core.List.{List, [], ◌∷◌, ◌++◌}
use lib.ListN.{length, replicate}
use Rattle.model.specs.Rows.{row_bytes}
use Rattle.model.specs.Samples.{luz_image, slip_image}
use Rattle.trials.specs.Trials.{luces, luzes, luces_of_lu_z}
use Rattle.model.proofs.Computed.{computed}
use Rattle.shares.specs.Words.{ManyReply, record_reply, after_record, many_reply, after_replies, after_rows}

-- a record: its length byte, letters, and bytes that say nothing
abbrev pub asked : ℕ → List ℕ → List ℕ
asked n letters = n ∷ (letters ++ replicate (32 - length letters) 170)

-- four records and part of a fifth
abbrev pub four : List ℕ
four = asked 5 luces ++ asked 5 luzes ++ asked 33 luces ++ asked 1 (200 ∷ []) ++ (3 ∷ 5 ∷ [])

-- four places and part of a fifth; rows for one a word and one that is left over, and part of another
abbrev pub places : List ℕ
places = replicate 37 7

abbrev pub rows : List ℕ
rows = replicate 600 9

pub four_answered : many_reply luz_image four places ≡ ManyReply.words 4
unfolding computed many_reply
four_answered = refl

-- more 1, none, refused 9 and refused 10, each in eight bytes, the low byte first
pub four_replies : after_replies luz_image four places rows ≡ 6 ∷ replicate 7 0 ++ (0 ∷ replicate 7 0) ++ (39 ∷ replicate 7 0) ++ (43 ∷ replicate 7 0) ++ replicate 5 7
unfolding computed after_replies record_reply
four_replies = refl

-- luces has its first row, and every other byte is as it was
pub four_rows : after_rows luz_image four places rows ≡ row_bytes luces_of_lu_z ++ replicate 484 9
unfolding computed after_rows after_record
four_rows = refl

-- no word, and a refused image
pub none_asked : (many_reply luz_image (asked 5 luces) (replicate 7 0) ≡ ManyReply.words 0) × (after_rows luz_image (asked 5 luces) (replicate 7 0) rows ≡ rows)
unfolding computed many_reply after_rows after_record
none_asked = (refl, refl)

pub refused_all : (many_reply slip_image four places ≡ ManyReply.refused 14) × (after_replies slip_image four places rows ≡ places)
unfolding computed many_reply after_replies record_reply
refused_all = (refl, refl)
