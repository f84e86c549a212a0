-- `right_columns` meets its contract: every rule passed has a column for each pair.
use borrow.Author.Rules.{rules}
use native.Mathlib.Omega.{arith}
use mathlib.Core.Path.{◌≡◌, sym, ap, ◌∙◌}
use Prim.Native.Nat.{ℕ}
use Rattle.model.specs.Lists.{below, every}
use Rattle.image.specs.Header.{header_of}
use Rattle.model.proofs.Lists.{every_fails}
use Rattle.sets.proofs.Lists.{fails}
use Rattle.tables.proofs.Laws.{columns_read}
use Rattle.tables.proofs.right_columns.Invariants.{right}
use Rattle.tables.proofs.right_columns.Goals as goal

pub returns-then-not-choose_columns : goal.returns-then-not-choose_columns
returns-then-not-choose_columns c =
    let f = right c.args.image.now in
    sym (every_fails f c.args.h.rules c.loop-r.r c.loop-r-test.true (fails {b = f c.loop-r.r} c.choose_columns.result c.choose_columns.ensures.value (search rules)))
    ∙ columns_read c.args.image.now (header_of c.args.h) c.requires.laid

pub returns : goal.returns
returns c =
    let e : c.loop-r.r ≡ c.args.h.rules = omega arith in
    sym c.loop-r.invariant.1 ∙ ap (λ (n : ℕ). every (right c.args.image.now) (below n)) e ∙ columns_read c.args.image.now (header_of c.args.h) c.requires.laid
