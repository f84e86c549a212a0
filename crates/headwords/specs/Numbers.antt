-- The replies of the calls beside the listings as one number each, in the listings' own code: what is refused with k is 4k + 3.
use Rattle.std.specs.Prelude.{ℕ, ◌+◌, ◌*◌, cond, List, leb}
use Rattle.model.specs.Lists.{where_room}
use Rattle.model.specs.Refusals.{Verdict}
use Rattle.model.specs.Calls.{Sealing}
use Rattle.model.specs.Beside.{Judgement, FormReply, Spelling}
use Rattle.shares.specs.Words.{ManyReply}
use Rattle.conversion.specs.Conversion.{Conversion}

abbrev pub refused_number : ℕ → ℕ
refused_number k = 4 * k + 3

abbrev pub verdict_number : Verdict → ℕ
verdict_number Verdict.accepted = 1
verdict_number (Verdict.refused k) = refused_number k

abbrev pub sealing_number : Sealing → ℕ
sealing_number Sealing.sealed = 1
sealing_number (Sealing.refused k) = refused_number k

abbrev pub judgement_number : Judgement → ℕ
judgement_number Judgement.holds = 1
judgement_number Judgement.fails = 0
judgement_number (Judgement.refused k) = refused_number k

-- the form's length, and whether a buffer of `room` bytes has room for it
abbrev pub form_number : ℕ → FormReply → ℕ
form_number room (FormReply.letters n) = cond (leb n room) (4 * n + 1) (4 * n + 2)
form_number room (FormReply.refused k) = refused_number k

-- the letters at the front of a buffer that has room for them; the buffer as it was where it has not
abbrev pub after_form : List ℕ → List ℕ → List ℕ
after_form form buffer = where_room form buffer

abbrev pub spelling_number : Spelling → ℕ
spelling_number (Spelling.letters n) = 4 * n + 1
spelling_number (Spelling.refused k) = refused_number k

abbrev pub conversion_number : Conversion → ℕ
conversion_number Conversion.converted = 1
conversion_number (Conversion.refused k) = refused_number k

-- "otherwise the reply is 4n + 1"
abbrev pub many_number : ManyReply → ℕ
many_number (ManyReply.words n) = 4 * n + 1
many_number (ManyReply.refused k) = refused_number k
