-- `pairing_passes` meets its contract: whether the rules, in their states, accept the pairs that are left decides.
use native.Mathlib.Omega.{arith}
use mathlib.Core.Path.{sym, ◌∙◌}
use Rattle.rules.proofs.Tables.{accepted_here}
use Rattle.letters.proofs.Laws.{laid_pairs}
use Rattle.judge.proofs.PairingLaws.{listed_at, pass_begun, pass_dead, pass_end, pass_on, pass_fails}
use Rattle.judge.proofs.reading.pairing_passes.Goals as goal

pub begin_all-requires : goal.begin_all-requires
begin_all-requires c = record { accepted = c.requires.accepted; index_value = c.requires.index_value }

pub returns-in_default : goal.returns-in_default
returns-in_default c = sym (pass_dead c.args.image.now c.args.pairing.now (rw c.in_default.is at c.begin_all.ensures))

pub loop-p-init : goal.loop-p-init
loop-p-init c = let front = c.in-Some.ensures in (front.live, pass_begun c.args.pairing.now front)

pub step_all-requires : goal.step_all-requires
step_all-requires c =
    let a = c.args in
    let laid = c.requires.accepted.laid in
    let here = listed_at a.image.now a.pairing.now c.loop-p.p-index c.requires.listed c.loop-p-test.true in
    record {
      accepted = c.requires.accepted;
      index_value = c.requires.index_value;
      p_le_pairs = omega (arith, here, c.from.ensures, laid_pairs laid);
      live = c.loop-p.invariant.0;
    }

pub returns-in_default-step_all : goal.returns-in_default-step_all
returns-in_default-step_all c =
    let a = c.args in
    let dead = rw c.in_default-step_all.is at c.step_all.ensures in
    sym (pass_fails (accepted_here c.requires.accepted) c.loop-p.states a.pairing.now c.loop-p.p-index c.from.result c.loop-p-test.true c.from.ensures dead)
    ∙ c.loop-p.invariant.1

pub loop-p-preserved : goal.loop-p-preserved
loop-p-preserved c =
    let next = c.in-Some-step_all in
    let here = c.loop-p in
    let i = here.p-index in
    let inside = c.loop-p-test.true in (
      next.ensures.live,
      sym (pass_on (accepted_here c.requires.accepted) here.states c.args.pairing.now i c.from.result inside c.from.ensures next.next here.invariant.0 next.ensures) ∙ here.invariant.1,
    )

pub finish_all-requires : goal.finish_all-requires
finish_all-requires c =
    record { accepted = c.requires.accepted; index_value = c.requires.index_value; live = c.loop-p.invariant.0 }

pub returns : goal.returns
returns c =
    c.finish_all.ensures
    ∙ sym (pass_end (accepted_here c.requires.accepted) c.loop-p.states c.args.pairing.now c.loop-p.p-index c.loop-p.invariant.0 c.loop-p-test.false)
    ∙ c.loop-p.invariant.1
