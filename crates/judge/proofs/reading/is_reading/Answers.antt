-- `is_reading` meets its contract: the two levels, and then the rules.
use mathlib.Core.Bool.{Bool, ◌&&◌}
use mathlib.Core.Path.{sym, ap, ◌∙◌}
use Rattle.model.specs.GrammarOf.{grammar_of}
use Rattle.model.specs.Readings.{passes}
use Rattle.judge.specs.Reading.{Listed}
use Rattle.rules.proofs.PathLaws.{linked_entries}
use Rattle.judge.proofs.Judging.{is_listed, reading_is}
use Rattle.judge.proofs.reading.is_reading.Goals as goal
use Rattle.judge.proofs.reading.is_reading.Goals.{Start}

listed : (s : Start) → Listed s.args.image.now s.args.pairing.now
listed s = is_listed s.args.image.now s.args.path.now s.args.pairing.now s.requires.t.0 s.requires.t.1 s.requires.t_2

pub levels_right-requires : goal.levels_right-requires
levels_right-requires c = record { accepted = c.requires.accepted; entered = (linked_entries c.args.image.now c.args.path.now c.requires.t.1, listed (goal.at.levels_right-requires c).Start) }

pub pairing_passes-requires : goal.pairing_passes-requires
pairing_passes-requires c = record { accepted = c.requires.accepted; index_value = c.requires.index_value; listed = listed (goal.at.pairing_passes-requires c).Start }

pub returns-then-levels_right : goal.returns-then-levels_right
returns-then-levels_right c =
    let image = c.args.image.now in
    let pairing = c.args.pairing.now in
    c.pairing_passes.ensures
    ∙ ap (λ (b : Bool). b && passes (grammar_of image) pairing) (sym c.if-levels_right.true ∙ c.levels_right.ensures)
    ∙ sym (reading_is image c.args.path.now pairing c.requires.t.0 c.requires.t.1 c.requires.t_2)

pub returns-else-levels_right : goal.returns-else-levels_right
returns-else-levels_right c =
    let image = c.args.image.now in
    let pairing = c.args.pairing.now in
    c.if-levels_right.false
    ∙ ap (λ (b : Bool). b && passes (grammar_of image) pairing) (sym c.if-levels_right.false ∙ c.levels_right.ensures)
    ∙ sym (reading_is image c.args.path.now pairing c.requires.t.0 c.requires.t.1 c.requires.t_2)
