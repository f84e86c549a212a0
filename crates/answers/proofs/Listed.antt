-- The rows of a listing as text: each row holds its reading, so the rows printed are those of the readings listed.
use Prim.Native.Nat.{ℕ, zero, suc, ◌/◌, ◌<◌, ◌≤◌}
use native.Mathlib.Omega.{arith}
use mathlib.Core.Bool.{Bool, true, false, cond}
use mathlib.Core.Path.{◌≡◌, refl, sym, ap, ◌∙◌, subst}
use mathlib.Core.List.{List, [], ◌∷◌, ◌++◌, Memᴰ}
use lib.ListN.{length, get_or, take, length-take}
use lib.Seq.{take_all, take-nil}
use lib.Dec.{leb}
use borrow.Author.Tests.{leb-true, leb-false}
use Rattle.model.specs.Lists.{below, flat_map}
use Rattle.model.specs.Readings.{Reading}
use Rattle.model.specs.GrammarOf.{grammar_of}
use Rattle.model.specs.Query.{analysis, query_of}
use Rattle.model.specs.Refusals.{Verdict, accepted, image_verdict}
use Rattle.model.specs.Tree.{readings}
use Rattle.model.specs.Rows.{Reply, row_bytes, row_count, row_at, filled, reply_to}
use Rattle.model.specs.Calls.{reply_after, rows_after, request_verdict, all_readings, listing_reply, listing_rows, after_listing}
use Rattle.model.specs.Demand.{reply_rows, as_rows}
use Rattle.model.specs.Lines as lines
use Rattle.model.specs.Lines.{printed_reply, printed_row, printed_line}
use Rattle.model.proofs.Lists.{member_at, below_from, get_d_map_below}
use Rattle.model.proofs.Parts.{flat_map_same}
use Rattle.listing.proofs.Loops.{flat_map_places}
use Rattle.model.proofs.Listing.{listing}
use Rattle.model.proofs.Rows.{filled_rows}
use Rattle.grammar.proofs.Verdicts.{accepted_image}
use Rattle.print.specs.Text.{Row, row_reading, printed_rows}
use Rattle.print.proofs.Text.{row_right, row_reading_lem}
use Rattle.print.proofs.Small.{Small, reading_small}

-- a list of readings that rows have room for
abbrev pub AllSmall : List Reading → Type 0
AllSmall l = (r : Reading) → Memᴰ r l → Small r

-- the rows of a buffer that such readings fill
module _ (before : List ℕ) (l : List Reading) (small : AllSmall l) where
  nothing : Reading
  nothing = record { path = []; pairing = [] }

  row_at_lem : (j : ℕ) → j < length l → row_at (filled before l) j ≡ row_bytes (get_or l j nothing)
  row_at_lem j h =
      sym (get_d_map_below (row_at (filled before l)) (length l) j [] h)
      ∙ ap (λ (x : List (List ℕ)). get_or x j []) (filled_rows before l)
      ∙ get_d_map l j h
    where
      get_d_map : (m : List Reading) (j : ℕ) → j < length m → get_or (as_rows m) j [] ≡ row_bytes (get_or m j nothing)
      get_d_map [] j h = absurd (omega arith)
      get_d_map (r ∷ m) zero h = refl
      get_d_map (r ∷ m) (suc j) h = get_d_map m j (omega arith)

  here : (j : ℕ) → j < length l → Small (get_or l j nothing)
  here j h = small (get_or l j nothing) (member_at l j nothing h)

  pub rows_right : (j : ℕ) → j < length l → Row (row_at (filled before l) j)
  rows_right j h = let s = here j h in subst Row (sym (row_at_lem j h)) (row_right (get_or l j nothing) s.entries_most s.pairs_most)

  pub rows_printed : printed_rows (filled before l) (length l) ≡ flat_map printed_row l
  rows_printed =
      flat_map_same (λ j. printed_row (row_reading (row_at (filled before l) j))) (λ j. printed_row (get_or l j nothing)) (below (length l))
      (λ j m. let h = below_from (length l) j m in let s = here j h in ap printed_row (ap row_reading (row_at_lem j h) ∙ row_reading_lem (get_or l j nothing) s.entries_most s.pairs_most s.entries_small s.pairs_small))
      ∙ sym (flat_map_places printed_row nothing l)

-- a reply tells of as many rows as are handed back
told_count : (v : Verdict) (n : ℕ) (l : List Reading) → reply_rows (reply_after v n l) ≡ length (rows_after v n l)
unfolding reply_to
told_count Verdict.accepted n [] = sym (ap length (take-nil {A = Reading} n))
told_count Verdict.accepted n (r ∷ l) = go (leb (length (r ∷ l)) n) refl
  where
    go : (b : Bool) → leb (length (r ∷ l)) n ≡ b → reply_rows (cond b (Reply.all (length (r ∷ l))) (Reply.more n)) ≡ length (take n (r ∷ l))
    go true e = let h = leb-true (length (r ∷ l)) n e in sym (ap length (take_all n (r ∷ l) h))
    go false e = let h = leb-false (length (r ∷ l)) n e in sym (length-take n (r ∷ l) ∙ omega arith)
told_count (Verdict.refused k) n l = refl

-- those taken from the front are among all
taken_from : (n : ℕ) (l : List Reading) (r : Reading) → Memᴰ r (take n l) → Memᴰ r l
taken_from zero l r x = elim x [ ]
taken_from (suc n) [] r x = elim x [ ]
taken_from (suc n) (s ∷ l) r (Memᴰ.head e) = Memᴰ.head e
taken_from (suc n) (s ∷ l) r (Memᴰ.tail m) = Memᴰ.tail (taken_from n l r m)

rows_few : (v : Verdict) (n : ℕ) (l : List Reading) → length (rows_after v n l) ≤ n
rows_few Verdict.accepted n l = omega (arith, length-take n l)
rows_few (Verdict.refused k) n l = omega arith

module _ (image word : List ℕ) (accepts : image_verdict image ≡ accepted) where
  abbrev pub handed : List Reading
  handed = listing_rows image (analysis word) 64

  all_small : (v : Verdict) → AllSmall (rows_after v 64 (all_readings image (analysis word)))
  unfolding all_readings grammar_of
  all_small (Verdict.refused k) r m = elim m [ ]
  all_small Verdict.accepted r m =
      let limits = (accepted_image image accepts).laid.limits in
      reading_small (grammar_of image) (omega (arith, limits.entries_most)) (omega (arith, limits.pairs_most)) r ((listing (grammar_of image) (query_of (analysis word))).only r (taken_from 64 (readings (grammar_of image) (query_of (analysis word))) r m)).0

  handed_small : AllSmall handed
  unfolding listing_rows
  handed_small = all_small (request_verdict image (analysis word))

  pub handed_told : reply_rows (listing_reply image (analysis word) 64) ≡ length handed
  unfolding listing_reply listing_rows
  handed_told = told_count (request_verdict image (analysis word)) 64 (all_readings image (analysis word))

  pub handed_few : length handed ≤ 64
  unfolding listing_rows
  handed_few = rows_few (request_verdict image (analysis word)) 64 (all_readings image (analysis word))

  pub line_text : printed_reply (listing_reply image (analysis word) 64) ++ flat_map printed_row handed ≡ printed_line image (lines.letters word)
  unfolding printed_line
  line_text = refl

  -- in the lent rows
  module _ (before after : List ℕ) (long : length before ≡ 7424) (same : after ≡ after_listing image (analysis word) before) where
    pub rows_lent : row_count before ≡ 64
    rows_lent = ap (λ (n : ℕ). n / 116) long

    after_is : after ≡ filled before handed
    unfolding after_listing
    after_is = same ∙ ap (λ (n : ℕ). filled before (listing_rows image (analysis word) n)) rows_lent

    pub handed_rows : (j : ℕ) → j < length handed → Row (row_at after j)
    handed_rows j h = subst (λ (l : List ℕ). Row (row_at l j)) (sym after_is) (rows_right before handed handed_small j h)

    pub handed_text : printed_rows after (length handed) ≡ flat_map printed_row handed
    handed_text = ap (λ (l : List ℕ). printed_rows l (length handed)) after_is ∙ rows_printed before handed handed_small
