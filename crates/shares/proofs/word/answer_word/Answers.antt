-- `answer_word` meets its contract: the record listed, and its reply's number put in its place.
use mathlib.Core.Path.{ap, ◌∙◌}
use Rattle.shares.specs.Words.{low_first}
use Rattle.shares.proofs.Records.{low_bytes}
use Rattle.shares.proofs.word.answer_word.Goals as goal

pub returns-clause-reply : goal.returns-clause-reply
returns-clause-reply c =
    c.copy_from_slice.ensures.after ∙ c.to_le_bytes.ensures ∙ low_bytes c.list_record-number.result ∙ ap (low_first 8) c.list_record-number.ensures.reply
