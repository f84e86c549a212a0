-- `list_record` meets its contract: a length byte over 32 is refused, and as many letters as another says are listed.
use Prim.Native.Nat.{ℕ, ◌+◌, ◌-◌}
use native.Mathlib.Omega.{arith}
use mathlib.Core.Path.{◌≡◌, ap, ◌∙◌}
use mathlib.Core.List.{List}
use lib.ListN.{take, drop}
use Rattle.model.specs.Lists.{byte}
use Rattle.model.specs.Query.{analysis}
use Rattle.model.specs.Rows.{row_count, reply_number}
use Rattle.model.specs.Demand.{reply_rows}
use Rattle.model.specs.Calls.{listing_reply, after_listing}
use Rattle.analyser.proofs.Replies.{listing_rows_lem}
use Rattle.shares.specs.Words.{word_of}
use Rattle.shares.proofs.Records.{record_long, record_listed}
use Rattle.shares.proofs.word.list_record.Goals as goal
use Rattle.shares.proofs.word.list_record.Goals.{After-byte_at-n}

module _ (c : After-byte_at-n) where
  abbrev image : List ℕ
  image = c.args.image.now

  abbrev asked : List ℕ
  asked = c.args.asked.now

  abbrev share : List ℕ
  share = c.args.share.now

  -- the part that is lent
  lent_word : take (c.byte_at-n.result + 1 - 1) (drop 1 asked) ≡ word_of asked
  lent_word =
      let few : c.byte_at-n.result + 1 - 1 ≡ byte asked 0 = omega (arith, c.byte_at-n.ensures.0) in
      ap (λ (n : ℕ). take n (drop 1 asked)) few

pub byte_at-n-requires : goal.byte_at-n-requires
byte_at-n-requires c = omega (arith, c.requires.asked_len)

pub returns-then-n-gt32 : goal.returns-then-n-gt32
returns-then-n-gt32 c =
    let at = (goal.at.returns-then-n-gt32 c).After-byte_at-n in
    let l = record_long (image at) (asked at) (omega (arith, c.byte_at-n.ensures.0)) in
    record { reply = c.reply_number.ensures ∙ ap reply_number (l.0 (row_count (share at))); bytes = l.1 (share at) }

pub slice_bounds-analyse-end : goal.slice_bounds-analyse-end
slice_bounds-analyse-end c = omega (arith, c.requires.asked_len)

pub reply_number-requires-2 : goal.reply_number-requires-2
reply_number-requires-2 c =
    let at = (goal.at.reply_number-requires-2 c).After-byte_at-n in
    let same = ap (λ (w : List ℕ). listing_reply (image at) (analysis w) (row_count (share at))) (lent_word at) in
    omega (arith, listing_rows_lem (image at) (analysis (word_of (asked at))) (row_count (share at)), ap reply_rows (c.analyse-reply.ensures.reply ∙ same), c.well_formed.1.1.1.1.0.0)

pub returns : goal.returns
returns c =
    let at = (goal.at.returns c).After-byte_at-n in
    let l = record_listed (image at) (asked at) (omega (arith, c.byte_at-n.ensures.0, c.if-n-gt32.false)) in
    let same = ap (λ (w : List ℕ). listing_reply (image at) (analysis w) (row_count (share at))) (lent_word at) in
    let left = ap (λ (w : List ℕ). after_listing (image at) (analysis w) (share at)) (lent_word at) in
    record {
      reply = c.reply_number-2.ensures ∙ ap reply_number (c.analyse-reply.ensures.reply ∙ same ∙ l.0 (row_count (share at)));
      bytes = c.analyse-reply.ensures.bytes ∙ left ∙ l.1 (share at);
    }
