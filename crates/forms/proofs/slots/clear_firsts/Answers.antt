-- `forms::slots::clear_firsts` meets its contract.
use native.Mathlib.Omega.{arith}
use mathlib.Core.Path.{◌≡◌, sym, subst}
use Rattle.forms.specs.Filling.{FirstsCleared}
use Rattle.lexicon.proofs.Laws.{first_none, first_more}
use Rattle.image.specs.Header.{header_of}
use Rattle.orders.proofs.AcceptedLaws.{first_most}
use Rattle.forms.proofs.SlotLaws.{firsts_none, firsts_more}
use Rattle.forms.proofs.slots.clear_firsts.Goals as goal

pub loop-x-init : goal.loop-x-init
loop-x-init c =
    let a = c.args in
    record { first_is = sym (first_none a.image.now); cleared = firsts_none a.image.now a.shared.now }

pub bounds-shared-first : goal.bounds-shared-first
bounds-shared-first c =
    let l = c.loop-x in
    omega (arith, l.invariant.first_is, l.invariant.cleared.long, c.requires.shared_len, first_most c.args.image.now (header_of c.args.h) c.requires.accepted l.x c.loop-x-test.true)

pub overflow_add-first : goal.overflow_add-first
overflow_add-first c =
    let l = c.loop-x in
    omega (arith, l.invariant.first_is, c.entry_count-first.ensures.1, first_most c.args.image.now (header_of c.args.h) c.requires.accepted l.x c.loop-x-test.true)

pub loop-x-preserved : goal.loop-x-preserved
loop-x-preserved c =
    let l = c.loop-x in
    let image = c.args.image.now in
    let most = first_most image (header_of c.args.h) c.requires.accepted l.x c.loop-x-test.true in
    record {
      first_is = omega (arith, l.invariant.first_is, c.entry_count-first.ensures.0, first_more image l.x);
      cleared = firsts_more image c.args.shared.now l.shared l.x l.first l.invariant.cleared l.invariant.first_is (omega (arith, most, l.invariant.first_is, c.requires.shared_len));
    }

pub returns : goal.returns
returns c =
    let l = c.loop-x in
    let all : l.x ≡ c.args.h.lexicons = omega arith in
    subst (FirstsCleared c.args.image.now c.args.shared.now l.shared) all l.invariant.cleared
