-- `positions::stack::descend` meets its contract.
use Prim.Native.Nat.{ℕ, ◌<◌}
use native.Mathlib.Omega.{arith}
use mathlib.Core.Path.{◌≡◌, sym, ◌∙◌, subst}
use lib.ListN.{take, drop}
use Rattle.positions.specs.Stack.{Stacked}
use Rattle.positions.proofs.Depths.{letter_on, letter_dead}
use Rattle.positions.proofs.stack.descend.Goals as goal

pub is_shut-requires : goal.is_shut-requires
is_shut-requires c =
    record { filled = c.requires.filled; a_bound = subst (λ (x : ℕ). x < 128) (sym c.byte_at-a.ensures.0) (c.requires.by_index c.loop-k.k c.loop-k-test.true) }

pub returns-then-is_shut : goal.returns-then-is_shut
returns-then-is_shut c =
    let a = c.args in
    let letter = c.byte_at-a in
    let l = c.loop-k in
    let dead =
    λ (more : l.k < a.len). letter_dead a.masks.now a.flags.now a.start a.slots.now a.from a.len c.requires.d_le_len.1.1 l.stack l.k more l.invariant letter.result letter.ensures.0
    (c.is_shut.ensures c.if-is_shut.true) in
    (omega arith, (l.invariant, dead))

pub step-m-requires : goal.step-m-requires
step-m-requires c =
    record {
      filled = c.requires.filled;
      a_bound = (subst (λ (x : ℕ). x < 128) (sym c.byte_at-a.ensures.0) (c.requires.by_index c.loop-k.k c.loop-k-test.true), c.loop-k.invariant.few c.loop-k.k (omega arith));
    }

pub returns-then-m-eq0 : goal.returns-then-m-eq0
returns-then-m-eq0 c =
    let a = c.args in
    let letter = c.byte_at-a in
    let l = c.loop-k in
    let dead =
    λ (more : l.k < a.len). letter_dead a.masks.now a.flags.now a.start a.slots.now a.from a.len c.requires.d_le_len.1.1 l.stack l.k more l.invariant letter.result letter.ensures.0
    (sym c.step-m.ensures.0 ∙ c.if-m-eq0.true) in
    (omega arith, (l.invariant, dead))

pub loop-k-preserved : goal.loop-k-preserved
loop-k-preserved c =
    let a = c.args in
    let letter = c.byte_at-a in
    let more = c.loop-k-test.true in
    letter_on a.masks.now a.flags.now a.start a.slots.now a.from a.len c.requires.d_le_len.1.1 c.loop-k.stack c.loop-k.k more c.loop-k.invariant letter.result letter.ensures.0
    c.step-m.result c.step-m.ensures.0 c.step-m.ensures.1 c.requires.d_le_len.1.0

pub returns : goal.returns
returns c =
    let a = c.args in
    let all : c.loop-k.k ≡ a.len = omega (arith, c.requires.d_le_len.0) in
    (omega arith, (subst (Stacked a.masks.now a.flags.now a.start (take a.len (drop a.from a.slots.now)) c.loop-k.stack) all c.loop-k.invariant, λ h. absurd (omega (arith, h))))
