-- `allows_letter` meets its contract.
use mathlib.Core.Path.{refl, ap, ◌∙◌}
use Prim.Native.Nat.{ℕ}
use lib.Dec.{eqb}
use borrow.Author.Tests.{le-ltb, lt-ltb}
use Rattle.listing.specs.Asked.{word_pattern}
use Rattle.listing.proofs.asked.allows_letter.Goals as goal

pub returns-then-word-i : goal.returns-then-word-i
unfolding word_pattern
returns-then-word-i c = rw (c.in-Exactly.is, le-ltb _ _ c.if-word-i.true) refl

pub surface_at-own-requires : goal.surface_at-own-requires
surface_at-own-requires c = c.if-word-i.false

pub returns-in-Anything : goal.returns-in-Anything
unfolding word_pattern
returns-in-Anything c = rw c.in-Anything.is refl

pub returns-else-word-i : goal.returns-else-word-i
unfolding word_pattern
returns-else-word-i c =
    let x = c.args.x.0 in
    rw (c.in-Exactly.is, lt-ltb _ _ c.if-word-i.false) (c.same_surface.ensures ∙ ap (λ (y : ℕ). eqb y x) c.surface_at-own.ensures)
