-- Many words in one call, word by word: what it leaves is what plain analysis promises.
use Prim.Native.Nat.{ℕ, ◌+◌, ◌*◌, ◌/◌, ◌^◌, ◌<◌, ◌≤◌}
use native.Mathlib.Omega.{arith}
use mathlib.Core.Path.{◌≡◌, refl, sym, ap, ◌∙◌, subst}
use mathlib.Core.Bool.{Bool, true, false, ◌||◌}
use mathlib.Core.List.{List}
use lib.ListN.{length, drop}
use lib.Dec.{T}
use Rattle.model.specs.Lists.{part, within}
use Rattle.model.specs.Query.{Request, analysis}
use Rattle.model.specs.Refusals.{Verdict, accepted, first_failing, image_tests, image_verdict, request_tests}
use Rattle.model.specs.Rows.{Reply, row_count, reply_number}
use Rattle.model.specs.Demand.{reply_rows}
use Rattle.model.specs.Calls.{listing_reply, after_listing}
use Rattle.model.proofs.Booleans.{of_true, within_out}
use Rattle.model.proofs.Tests.{clash}
use Rattle.analyser.proofs.Replies.{listing_rows_lem}
use Rattle.shares.specs.Words.{ManyReply, low_first, record_reply, after_record, words_asked, share_rows, many_reply, after_replies, after_rows}
use Rattle.shares.proofs.Over.{part_long, share_rows_lem}
use Rattle.shares.proofs.Records.{record_long, record_listed}
use Rattle.shares.proofs.Replies.{refused_whole, answered_reply, answered_when}
use Rattle.shares.proofs.Shares.{low_apart, share_inside, place_left, share_left, places_past, shares_past}
use Rattle.demands.specs.Words.{in_table, Coding, word_at, share_of, WordsAnswered, AmongWords}
use Rattle.demands.proofs.Refusing.{Case, by_table}
use Rattle.demands.proofs.Calls.{Promised, listing_case, request_table}
use Rattle.headwords.specs.Numbers.{many_number}
use Rattle.demands.proofs.Numbers.{coding, coded_case, listing_coding}

-- a reply's number fits eight bytes: it has at most as many rows as a slice, and refusals have small numbers
in_table_small : (k : ℕ) → T (in_table k) → k ≤ 24
in_table_small k t = go (within 1 17 k) (within 19 20 k) refl refl t
  where
    go : (a b : Bool) → within 1 17 k ≡ a → within 19 20 k ≡ b → T (a || b || within 23 24 k) → k ≤ 24
    go true b e f u = omega (arith, (within_out 1 17 k (of_true (within 1 17 k) e)).1)
    go false true e f u = omega (arith, (within_out 19 20 k (of_true (within 19 20 k) f)).1)
    go false false e f u = (within_out 23 24 k u).1

module _ (image : List ℕ) (request : Request) (before : List ℕ) (slice : length before < 2 ^ 63) where
  abbrev reply : Reply
  reply = listing_reply image request (row_count before)

  refused_small : (k : ℕ) → reply ≡ Reply.refused k → k ≤ 24
  refused_small k e =
      let p : Promised image request before (after_listing image request before) reply = record { replies = refl; leaves = refl } in
      in_table_small k (by_table (λ j. reply ≡ Reply.refused j) _ _ (request_tests image request) (listing_case p) (request_table image request) k e)

  pub reply_fits : reply_number reply < 256 ^ 8
  unfolding reply_number
  reply_fits = go reply refl (listing_rows_lem image request (row_count before))
    where
      go : (r : Reply) → reply ≡ r → reply_rows r ≤ row_count before → reply_number r < 256 ^ 8
      go (Reply.all m) e h = omega arith
      go (Reply.more m) e h = omega arith
      go Reply.none e h = omega arith
      go (Reply.refused k) e h = omega (arith, refused_small k e)

module _ (image words replies rows places shares : List ℕ) (leaves-places : places ≡ after_replies image words replies rows) (leaves-shares : shares ≡ after_rows image words replies rows) where
  abbrev n : ℕ
  n = words_asked image words replies

  abbrev share : ℕ
  share = share_rows image words replies rows

  module _ (accepts : image_verdict image ≡ accepted) (i : ℕ) (h : i < n) where
    abbrev asked : List ℕ
    asked = part 33 words i

    place_is : part 8 places i ≡ low_first 8 (reply_number (record_reply image asked share))
    place_is = ap (λ (l : List ℕ). part 8 l i) leaves-places ∙ place_left image words replies rows accepts i h

    share_is : share_of image words replies rows shares i ≡ after_record image asked (share_of image words replies rows rows i)
    share_is = ap (λ (l : List ℕ). share_of image words replies rows l i) leaves-shares ∙ share_left image words replies rows accepts i h

    rows_of : row_count (share_of image words replies rows rows i) ≡ share
    rows_of = ap (λ (m : ℕ). m / 116) (part_long (116 * share) i rows (share_inside image words replies rows accepts i h)) ∙ share_rows_lem share

  pub words_answered : image_verdict image ≡ accepted → WordsAnswered image words replies rows places shares
  words_answered accepts = record {
    plain = λ i h s. let l = record_listed image (part 33 words i) s in
        (place_is accepts i h ∙ ap (λ (r : Reply). low_first 8 (reply_number r)) (sym (l.0 share)), share_is accepts i h ∙ sym (l.1 (share_of image words replies rows rows i)));
    too_long = λ i h s. let l = record_long image (part 33 words i) s in
        (place_is accepts i h ∙ ap (λ (r : Reply). low_first 8 (reply_number r)) (sym (l.0 share)), share_is accepts i h ∙ sym (l.1 (share_of image words replies rows rows i)));
    past_places = ap (drop (8 * n)) leaves-places ∙ places_past image words replies rows accepts;
    past_shares = ap (drop (116 * share * n)) leaves-shares ∙ shares_past image words replies rows accepts;
  }

  -- and each word that is not too long is promised what plain analysis of it promises
  module _ (accepts : image_verdict image ≡ accepted) (i : ℕ) (reply : Reply) (among : AmongWords words rows places n i reply) where
    abbrev request : Request
    request = analysis (word_at words i)

    abbrev before : List ℕ
    before = share_of image words replies rows rows i

    abbrev given : Reply
    given = listing_reply image request (row_count before)

    given_fits : reply_number given < 256 ^ 8
    given_fits = reply_fits image request before (omega (arith, part_long (116 * share) i rows (share_inside image words replies rows accepts i among.one_of), share_inside image words replies rows accepts i among.one_of, among.slice))

    same_number : low_first 8 (reply_number reply) ≡ low_first 8 (reply_number given)
    same_number =
        sym among.told
        ∙ ((words_answered accepts).plain i among.one_of among.short).0
        ∙ ap (λ (m : ℕ). low_first 8 (reply_number (listing_reply image request m))) (sym (rows_of accepts i among.one_of))

    pub word_promised : Promised image request before (share_of image words replies rows shares i) reply
    word_promised = record {
      replies = listing_coding.apart reply given (low_apart 8 (reply_number reply) (reply_number given) among.in_eight given_fits same_number);
      leaves = ((words_answered accepts).plain i among.one_of among.short).1;
    }

-- the whole call
module _ (image words replies rows places shares : List ℕ) (reply : ManyReply) (p : reply ≡ many_reply image words replies) (q : places ≡ after_replies image words replies rows) (r : shares ≡ after_rows image words replies rows) where
  pub words_case : Case (λ k. reply ≡ ManyReply.refused k) ((places ≡ replies) × (shares ≡ rows)) ((reply ≡ ManyReply.words (words_asked image words replies)) × WordsAnswered image words replies rows places shares) (first_failing (image_tests image))
  unfolding image_verdict
  words_case = go (first_failing (image_tests image)) refl
    where
      go : (v : Verdict) → first_failing (image_tests image) ≡ v → Case (λ k. reply ≡ ManyReply.refused k) ((places ≡ replies) × (shares ≡ rows)) ((reply ≡ ManyReply.words (words_asked image words replies)) × WordsAnswered image words replies rows places shares) v
      go Verdict.accepted e =
          let f = p ∙ sym (answered_reply image words replies rows e) in
          ((f, words_answered image words replies rows places shares q r e), λ k g. clash (cc))
      go (Verdict.refused k) e =
          let a = refused_whole image words replies rows k e in
          let f = p ∙ sym a.0 in
          (f, λ j g. cc, (q ∙ sym a.1.0, r ∙ sym a.1.1), λ w. let g = w.0 in clash (cc))

-- the call from C
pub many_coding : Coding many_number ManyReply.refused
many_coding = coding many_number ManyReply.refused (λ k. refl) apart
  where
    apart : (a b : ManyReply) → many_number a ≡ many_number b → a ≡ b
    apart (ManyReply.words m) (ManyReply.words n) e = ap ManyReply.words (omega arith)
    apart (ManyReply.words m) (ManyReply.refused n) e = absurd (omega arith)
    apart (ManyReply.refused m) (ManyReply.words n) e = absurd (omega arith)
    apart (ManyReply.refused m) (ManyReply.refused n) e = ap ManyReply.refused (omega arith)

module _ (image words replies rows places shares : List ℕ) (number : ℕ) (p : number ≡ many_number (many_reply image words replies)) (q : places ≡ after_replies image words replies rows) (r : shares ≡ after_rows image words replies rows) where
  pub words_number_case : Case (λ k. number ≡ 4 * k + 3) ((places ≡ replies) × (shares ≡ rows)) ((number ≡ 4 * words_asked image words replies + 1) × WordsAnswered image words replies rows places shares) (first_failing (image_tests image))
  words_number_case =
      let reply = many_reply image words replies in
      let n = words_asked image words replies in
      let done = WordsAnswered image words replies rows places shares in
      coded_case many_number ManyReply.refused many_coding reply number p ((places ≡ replies) × (shares ≡ rows)) ((reply ≡ ManyReply.words n) × done) ((number ≡ 4 * n + 1) × done)
      (λ w. (p ∙ ap many_number w.0, w.1))
      (λ w. (many_coding.apart reply (ManyReply.words n) (sym p ∙ w.0), w.1))
      (first_failing (image_tests image))
      (words_case image words replies rows places shares reply refl q r)

-- where the call answers n words, a word among them
module _ (image words replies rows places shares : List ℕ) (n i : ℕ) (reply : Reply) (answered : many_reply image words replies ≡ ManyReply.words n) (q : places ≡ after_replies image words replies rows) (r : shares ≡ after_rows image words replies rows) (among : AmongWords words rows places n i reply) where
  pub among_promised : Promised image (analysis (word_at words i)) (share_of image words replies rows rows i) (share_of image words replies rows shares i) reply
  among_promised =
      let a = answered_when image words replies n answered in
      word_promised image words replies rows places shares q r a.0 i reply (subst (λ (m : ℕ). AmongWords words rows places m i reply) a.1 among)
