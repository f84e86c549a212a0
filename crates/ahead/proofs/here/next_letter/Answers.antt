-- `next_letter` meets its contract.
use borrow.Author.Rules.{rules}
use native.Mathlib.Omega.{arith}
use mathlib.Core.Path.{◌∙◌, subst, sym}
use Prim.Native.Nat.{ℕ, ◌≤◌}
use Rattle.model.specs.Blocks.{header}
use Rattle.ahead.proofs.Standing.{head_some, head_none, head_most}
use Rattle.ahead.proofs.here.next_letter.Goals as goal

pub lexical_at-requires : goal.lexical_at-requires
lexical_at-requires c = omega (arith, c.if-place.true, c.requires.in_image)

pub returns-then-place : goal.returns-then-place
returns-then-place c =
    let image = c.args.image.now in
    let e = c.lexical_at.ensures ∙ head_some image c.args.place c.requires c.if-place.true in
    (e, subst (λ (x : ℕ). x ≤ (header image).letters) (sym e) (head_most image c.args.place c.requires))

pub returns : goal.returns
returns c = (head_none c.args.image.now c.args.place c.requires c.if-place.false, search rules)
