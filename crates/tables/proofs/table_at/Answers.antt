-- `table_at` meets its contract: the part of the image that is the rule's record.
use borrow.Author.Rules.{rules}
use native.Mathlib.Omega.{arith}
use mathlib.Core.Path.{◌≡◌, sym, ap, ap₂, ◌∙◌}
use Prim.Native.Nat.{ℕ, ◌+◌, ◌-◌}
use lib.ListN.{length, take, drop}
use Rattle.model.specs.Blocks.{kinds}
use Rattle.model.specs.RuleTables.{table}
use Rattle.image.specs.Header.{header_of}
use Rattle.tables.proofs.Laws.{table_inside, table_part, table_length}
use Rattle.tables.proofs.table_at.Goals as goal

pub record_start-from-requires : goal.record_start-from-requires
unfolding kinds
record_start-from-requires c = record { limited = search rules; i_bound = search rules }

pub slice_bounds-result-end : goal.slice_bounds-result-end
slice_bounds-result-end c =
    omega (arith, table_inside c.args.image.now (header_of c.args.h) c.requires.laid c.args.r 505 c.requires.r_bound (omega arith), c.record_start-from.ensures.0)

pub returns : goal.returns
returns c =
    let n = c.record_start-from in
    let image = c.args.image.now in
    let h = header_of c.args.h in
    let w : n.result + 506 - n.result ≡ 506 = omega arith in
    let e : take (n.result + 506 - n.result) (drop n.result image) ≡ table image c.args.r =
    ap₂ (λ (k m : ℕ). take k (drop m image)) w n.ensures.0 ∙ sym (table_part image h c.requires.laid c.args.r) in
    (e, ap length e ∙ table_length image h c.requires.laid c.args.r c.requires.r_bound)
