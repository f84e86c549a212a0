use Rattle.filter.specs.Unions.{UnionOf}
use Rattle.filter.proofs.onward.lexicon_back.Given as goal

abbrev pub invariant-loop-i : goal.invariant-loop-i
invariant-loop-i l = UnionOf l.image l.reach l.slots l.masks l.flags l.low l.i l.m
