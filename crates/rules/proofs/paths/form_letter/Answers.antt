-- `form_letter` meets its contract: the letters stand behind the length of the form.
use native.Mathlib.Omega.{arith}
use mathlib.Core.Path.{ap, ◌∙◌}
use Prim.Native.Nat.{ℕ, ◌+◌}
use Rattle.model.specs.Lists.{byte}
use Rattle.rules.proofs.PathLaws.{letter_inside, letter_byte}
use Rattle.rules.proofs.paths.form_letter.Goals as goal

pub entry_start-requires : goal.entry_start-requires
entry_start-requires c = record { limited = c.requires.accepted.laid.limits; e_lt_entries = c.requires.e_lt_entries.0 }

pub overflow_add-t : goal.overflow_add-t
overflow_add-t c = omega (arith, letter_inside c.requires.accepted c.args.e c.args.t c.requires.e_lt_entries.0 c.requires.e_lt_entries.1, c.entry_start.ensures.0, c.well_formed)

pub overflow_add-entry_start : goal.overflow_add-entry_start
overflow_add-entry_start c = omega (arith, letter_inside c.requires.accepted c.args.e c.args.t c.requires.e_lt_entries.0 c.requires.e_lt_entries.1, c.entry_start.ensures.0, c.well_formed)

pub lexical_at-requires : goal.lexical_at-requires
lexical_at-requires c = omega (arith, letter_inside c.requires.accepted c.args.e c.args.t c.requires.e_lt_entries.0 c.requires.e_lt_entries.1, c.entry_start.ensures.0)

pub returns : goal.returns
returns c =
    c.lexical_at.ensures
    ∙ ap (λ (n : ℕ). byte c.args.image.now (n + (1 + c.args.t))) c.entry_start.ensures.0
    ∙ letter_byte c.requires.accepted c.args.e c.args.t c.requires.e_lt_entries.0 c.requires.e_lt_entries.1
