-- A listing's reply and bytes by its verdict: a refusal's number and the buffer as it was, or what the search leaves.
use Prim.Native.Nat.{ℕ, ◌-◌, ◌≤◌}
use native.Mathlib.Omega.{arith}
use mathlib.Core.Path.{◌≡◌, refl, sym, ◌∙◌, subst}
use mathlib.Core.List.{List, []}
use lib.ListN.{length, take, drop, length-drop}
use lib.Seq.{take_all}
use Rattle.model.specs.Blocks.{Header, header}
use Rattle.model.specs.Query.{Request}
use Rattle.model.specs.Refusals.{Verdict, accepted, refused, first_failing, image_tests, image_verdict, own_tests, request_tests}
use Rattle.model.specs.Rows.{Reply, row_count, filled}
use Rattle.model.specs.Demand.{reply_rows}
use Rattle.model.specs.Calls.{reply_after, rows_after, request_verdict, all_readings, listing_reply, listing_rows, after_listing}
use Rattle.image.specs.Accepted.{Accepted}
use Rattle.model.proofs.Tests.{tests_refused, tests_accepted}
use Rattle.grammar.proofs.Verdicts.{accepted_image}
use Rattle.filter.specs.Sieve.{MayBe}
use Rattle.prepare.specs.Indexed.{Indexed}
use Rattle.rows.specs.Offering.{offer_all}
use Rattle.rows.specs.Fill.{put, reply_for}
use Rattle.rows.proofs.Fill.{reply_after_rows}
use Rattle.rows.proofs.Windows.{listed}

-- what the code that reads an accepted image asks
pub accepted_by : (image : List ℕ) (h : Header) → image_verdict image ≡ accepted → h ≡ header image → Accepted image h
accepted_by image h a e = subst (Accepted image) (sym e) (accepted_image image a)

-- and the index of forms, where there is one
pub rest_forms : {image index : List ℕ} → Indexed image index → MayBe image (take (length index - 39424) (drop 39424 index))
rest_forms {image} {index} i = rw (take_all (length index - 39424) (drop 39424 index) (omega (arith, length-drop 39424 index))) i.forms_are

-- the listing, for every request
module _ (image : List ℕ) (request : Request) (before : List ℕ) where
  by_verdict : (v : Verdict) → request_verdict image request ≡ v
      → (reply_after v (row_count before) (all_readings image request) ≡ listing_reply image request (row_count before)) × (filled before (rows_after v (row_count before) (all_readings image request)) ≡ after_listing image request before)
  unfolding listing_reply after_listing listing_rows
  by_verdict v e = rw e (refl, refl)

  nothing_written : filled before [] ≡ before
  unfolding filled
  nothing_written = refl

  pub refused_by : (k : ℕ) → request_verdict image request ≡ refused k → (Reply.refused k ≡ listing_reply image request (row_count before)) × (before ≡ after_listing image request before)
  refused_by k e = let r = by_verdict (refused k) e in (r.0, sym nothing_written ∙ r.1)

  -- the image is refused
  pub image_refused : (k : ℕ) → image_verdict image ≡ refused k → (Reply.refused k ≡ listing_reply image request (row_count before)) × (before ≡ after_listing image request before)
  unfolding image_verdict request_verdict request_tests
  image_refused k e = refused_by k (tests_refused (image_tests image) (own_tests image request) k e)

  module _ (a : image_verdict image ≡ accepted) where
    own_decides : request_verdict image request ≡ first_failing (own_tests image request)
    unfolding image_verdict request_verdict request_tests
    own_decides = tests_accepted (image_tests image) (own_tests image request) a

    -- what was asked is refused
    pub own_refused : (k : ℕ) → first_failing (own_tests image request) ≡ refused k → (Reply.refused k ≡ listing_reply image request (row_count before)) × (before ≡ after_listing image request before)
    own_refused k e = refused_by k (own_decides ∙ e)

    -- all readings are offered
    pub own_accepted : first_failing (own_tests image request) ≡ accepted → (after : List ℕ) (found : ℕ) → (after, found) ≡ offer_all (put (row_count before)) (before, 0) (all_readings image request)
        → (reply_for found (row_count before) ≡ listing_reply image request (row_count before)) × (after ≡ after_listing image request before)
    own_accepted e after found p =
        let r = by_verdict accepted (own_decides ∙ e) in
        let l = listed before (all_readings image request) after found p in
        (l.1 ∙ r.0, l.0 ∙ r.1)

-- a reply has at most as many rows as the buffer
pub listing_rows_lem : (image : List ℕ) (request : Request) (rows : ℕ) → reply_rows (listing_reply image request rows) ≤ rows
unfolding listing_reply
listing_rows_lem image request rows = reply_after_rows rows (request_verdict image request) (all_readings image request)
