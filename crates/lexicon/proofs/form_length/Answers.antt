-- `form_length` meets its contract: the first byte of the entry.
use native.Mathlib.Omega.{arith}
use mathlib.Core.Path.{sym, ap, ◌∙◌}
use Rattle.model.specs.Lists.{byte}
use Rattle.image.specs.Header.{header_of}
use Rattle.lexicon.proofs.Laws.{entry_byte, entry_inside}
use Rattle.lexicon.proofs.form_length.Goals as goal

pub byte_at-requires : goal.byte_at-requires
byte_at-requires c =
    omega (arith, entry_inside c.args.image.now (header_of c.args.h) c.requires.laid c.args.e 0 c.requires.e_lt_entries (omega arith), c.entry_start.ensures.0)

pub returns : goal.returns
returns c =
    (c.byte_at.ensures.0 ∙ ap (byte c.args.image.now) (omega (arith, c.entry_start.ensures.0)) ∙ sym (entry_byte c.args.image.now (header_of c.args.h) c.requires.laid c.args.e 0 (omega arith)), c.byte_at.ensures.1)
