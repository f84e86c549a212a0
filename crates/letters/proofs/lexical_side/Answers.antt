-- `lexical_side` meets its contract: that byte of the pair's record.
use mathlib.Core.Path.{ap, ◌∙◌}
use native.Mathlib.Omega.{arith}
use Rattle.model.specs.Lists.{byte}
use Rattle.image.specs.Header.{header_of}
use Rattle.letters.proofs.Laws.{pair_wide, pair_inside, lexical_byte}
use Rattle.letters.proofs.lexical_side.Goals as goal

pub side_start-requires : goal.side_start-requires
side_start-requires c = record { limited = c.requires.0.limits; p_lt_pairs = (c.requires.1, omega (arith, pair_wide (header_of c.args.h))) }

pub lexical_at-requires : goal.lexical_at-requires
lexical_at-requires c = omega (arith, pair_inside c.requires.0 c.args.p c.requires.1 0 (omega (arith, pair_wide (header_of c.args.h))))

pub returns : goal.returns
returns c =
    c.lexical_at.ensures ∙ ap (byte c.args.image.now) c.side_start.ensures ∙ lexical_byte c.requires.0 c.args.p c.requires.1
