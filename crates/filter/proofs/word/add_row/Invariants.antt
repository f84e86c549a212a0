use Rattle.filter.specs.Letters.{Added}
use Rattle.filter.proofs.word.add_row.Given as goal

abbrev pub invariant-loop-letter : goal.invariant-loop-letter
invariant-loop-letter l = Added l.rows l.initial.masks l.masks l.s l.one l.letter-index
