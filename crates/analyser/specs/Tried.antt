-- What a search that may give up comes to.
use Rattle.std.specs.Prelude.{ℕ, ◌≡◌, List, Option, Some, None, Result}
use Rattle.model.specs.Query.{analysis}
use Rattle.model.specs.Rows.{row_count}
use Rattle.model.specs.Calls.{listing_reply, after_listing}
use Rattle.rows.specs.Fill.{reply_of}
use Rattle.rows.specs.declared.Reply.{Reply}
use Rattle.refusal.specs.declared.Refusal.{Refusal}

-- the whole listing's reply and bytes; of one given up nothing is said
abbrev pub TriedOf : (image word before after : List ℕ) → Option (Result Reply Refusal) → Type 0
TriedOf image word before after (Some reply) = (reply_of reply ≡ listing_reply image (analysis word) (row_count before)) × (after ≡ after_listing image (analysis word) before)
TriedOf image word before after None = Unit
