-- A star more is read off, until a byte that is none or the end of the text.
use borrow.Author.Rules.{rules}
use borrow.Author.Tests.{eq-eqb}
use native.Mathlib.Omega.{arith}
use mathlib.Core.Path.{◌≡◌, refl, ◌∙◌}
use mathlib.Core.List.{List}
use Prim.Native.Nat.{ℕ, suc, ◌+◌, ◌-◌, ◌≤◌, ◌<◌}
use lib.ListN.{length, get_or}
use Rattle.model.proofs.Rest.{drop_step}
use Rattle.matching.proofs.skip_stars.Invariants.{Passed}
use Rattle.matching.proofs.skip_stars.Goals as goal

one_more : (t : List ℕ) (at e : ℕ) → at ≤ e → e < length t → get_or t e 0 ≡ 42 → Passed t at e → Passed t at (e + 1)
one_more t at e h k s p c =
    let z : e + 1 - at ≡ suc (e - at) = omega arith in
    p c ∙ rw (drop_step t 0 e k, eq-eqb (get_or t e 0) 42 s, z) refl

pub loop-end-preserved : goal.loop-end-preserved
loop-end-preserved c =
    let a = c.args in
    one_more a.text.now a.at c.loop-end.end (search rules) (search rules) (search rules) c.loop-end.invariant
