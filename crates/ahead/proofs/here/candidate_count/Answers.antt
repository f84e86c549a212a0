-- `candidate_count` meets its contract.
use mathlib.Core.Path.{◌∙◌}
use Rattle.ahead.proofs.Candidates.{count_inside, count_is}
use Rattle.ahead.proofs.here.candidate_count.Goals as goal

pub byte_at-requires : goal.byte_at-requires
byte_at-requires c = count_inside c.requires.accepted c.requires.index_value c.requires.a_le_letters

pub returns : goal.returns
returns c = c.byte_at.ensures.0 ∙ count_is c.requires.accepted c.requires.index_value c.requires.a_le_letters
