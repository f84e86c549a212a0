-- `ends_final` meets its contract: a rule that comes to 0 ends nowhere, and of any other the mark of its last state decides.
use native.Mathlib.Omega.{arith}
use mathlib.Core.Path.{◌≡◌, ap, ◌∙◌}
use Prim.Native.Nat.{ℕ}
use lib.Dec.{eqb}
use Rattle.model.specs.Blocks.{Header, header, kinds, record_start}
use Rattle.index.proofs.Laws.{laid_rules}
use Rattle.rules.proofs.Tables.{accepted_here}
use Rattle.rules.proofs.Stepping.{inside, mark_inside, final_read, ends_nowhere, ends_somewhere}
use Rattle.rules.proofs.states.ends_final.Goals as goal
use Rattle.rules.proofs.states.ends_final.Goals.{After-record_start-at}

-- where the table begins
begins : (c : After-record_start-at) → c.record_start-at.result ≡ record_start (header c.args.image.now) 4 c.args.r
begins c = c.record_start-at.ensures.0 ∙ ap (λ (g : Header). record_start g 4 c.args.r) c.requires.accepted.laid.header_is

pub returns-then-last-eq0 : goal.returns-then-last-eq0
returns-then-last-eq0 c =
    let a = c.args in
    ends_nowhere a.image.now a.r a.s a.p c.next_state-last.result c.next_state-last.ensures.0 c.if-last-eq0.true

pub record_start-at-requires : goal.record_start-at-requires
unfolding kinds
record_start-at-requires c = record { limited = c.requires.accepted.laid.limits; i_bound = omega (arith, laid_rules c.requires.accepted.laid) }

pub byte_at-columns-requires : goal.byte_at-columns-requires
byte_at-columns-requires c = omega (arith, inside (accepted_here c.requires.accepted) c.args.r c.requires.r_bound.0 c.record_start-at.result (begins c) 0 (omega arith))

pub byte_at-requires : goal.byte_at-requires
byte_at-requires c =
    let n = c.next_state-last in
    mark_inside (accepted_here c.requires.accepted) c.args.r c.requires.r_bound.0 c.record_start-at.result (begins (goal.at.byte_at-requires c).After-record_start-at) n.result c.byte_at-columns.result n.ensures.1 c.byte_at-columns.ensures.0

pub returns : goal.returns
returns c =
    let b = c.byte_at-columns in
    let n = c.next_state-last in
    ap (λ (m : ℕ). eqb m 1) c.byte_at.ensures.0
    ∙ final_read (accepted_here c.requires.accepted) c.args.r c.requires.r_bound.0 c.record_start-at.result (begins (goal.at.returns c).After-record_start-at) n.result b.result n.ensures.1 b.ensures.0 c.if-last-eq0.false
    ∙ ends_somewhere c.args.image.now c.args.r c.args.s c.args.p n.result n.ensures.0 c.if-last-eq0.false
