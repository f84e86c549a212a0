-- `answer_input` meets its contract: step after step, from nothing read and nothing handed over.
use mathlib.Core.Path.{refl, subst}
use Rattle.std.specs.Prelude.{Some}
use Rattle.steps.specs.Sofar.{Stepped}
use Rattle.steps.proofs.Sofar.{head_none, head_within, head_more, head_over}
use Rattle.steps.proofs.answer_input.Goals as goal

pub loop-turns-init : goal.loop-turns-init
loop-turns-init g c = head_none c.args.run.now.image.now c.args.chunk.now c.args.line.now _ refl refl refl c.none.ensures c.none-2.ensures

pub turn-requires-clause-within : goal.turn-requires-clause-within
turn-requires-clause-within g c = head_within c.loop-turns.invariant c.loop-turns-test.true

-- all is answered
pub returns-in-Over : goal.returns-in-Over
returns-in-Over g c =
    let before = c.loop-turns in
    let after = c.turn.new in
    let stepped = subst (λ step. Stepped c.args.run.now.image.now before.chunk after.chunk before.line after.line after.out before.s (Some step)) c.in-Over.is c.in_ok-step.ensures in
    head_over before.invariant stepped

-- one step more
pub loop-turns-preserved : goal.loop-turns-preserved
loop-turns-preserved g c =
    let before = c.loop-turns in
    let after = c.turn.new in
    let stepped = subst (λ step. Stepped c.args.run.now.image.now before.chunk after.chunk before.line after.line after.out before.s (Some step)) c.in-On.is c.in_ok-step.ensures in
    head_more before.invariant stepped
