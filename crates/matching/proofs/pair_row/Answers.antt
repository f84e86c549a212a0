-- The row of a pair that passes has one place, and the row of one that does not, or of the end, has none.
use borrow.Author.Tests.{lt-ltb, le-ltb}
use Prim.Native.Nat.{ℕ, ◌+◌}
use mathlib.Core.Bool.{true, false, ◌&&◌, ◌||◌}
use mathlib.Core.Path.{◌≡◌, refl, sym, ◌∙◌}
use lib.ListN.{length, get_or}
use lib.Dec.{eqb, ltb}
use Rattle.relations.specs.Sets.{holds}
use Rattle.relations.proofs.Bits.{holds_none}
use Rattle.relations.proofs.Filling.{row_of_pair}
use Rattle.matching.specs.Steps.{passes}
use Rattle.matching.proofs.pair_row.Goals as goal
use Rattle.matching.proofs.pair_row.Goals.{else-j-s-via-then-j-s+else-passes, else-j-s-via-else-j-s}

alone : (x j : ℕ) → ((k : ℕ) → holds x k ≡ (holds 0 k || eqb k j)) → (k : ℕ) → holds x k ≡ (true && eqb k j)
alone x j h k = h k ∙ rw (holds_none k) refl

pub returns-then-passes : goal.returns-then-passes
returns-then-passes c =
    let a = c.args in
    let on : passes a.number (get_or a.s.now a.j 0) ≡ true = sym c.passes.ensures ∙ c.if-passes.true in
    row_of_pair (passes a.number) a.s.now a.j c.with.result true (rw (lt-ltb a.j (length a.s.now) c.if-j-s.true, on) refl) (alone c.with.result (a.j + 1) c.with.ensures)

pub returns-else-j-s : goal.returns-else-j-s
returns-else-j-s c =
    let a = c.args in
    let off : false ≡ (ltb a.j (length a.s.now) && passes a.number (get_or a.s.now a.j 0)) = elim c.else-j-s.branch [
      | else-j-s-via-then-j-s+else-passes w ↦ rw (lt-ltb a.j (length a.s.now) w.if-j-s.true, sym w.passes.ensures ∙ w.if-passes.false) refl
      | else-j-s-via-else-j-s w ↦ rw (le-ltb a.j (length a.s.now) w.if-j-s.false) refl
    ] in
    row_of_pair (passes a.number) a.s.now a.j 0 false off holds_none
