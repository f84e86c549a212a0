use Rattle.forms.specs.Slots.{slot_form}
use Rattle.filter.proofs.Unions.{Backed}
use Rattle.filter.proofs.onward.entry_back.Given as goal

abbrev pub invariant-loop-d : goal.invariant-loop-d
invariant-loop-d l = Backed l.masks l.flags (slot_form l.slots l.i) l.initial.m l.d l.m
