use Rattle.filter.specs.Letters.{AddedRows}
use Rattle.filter.proofs.word.add_rows.Given as goal

abbrev pub invariant-loop-s : goal.invariant-loop-s
invariant-loop-s l = AddedRows l.rows l.initial.masks l.masks l.low l.s l.one
