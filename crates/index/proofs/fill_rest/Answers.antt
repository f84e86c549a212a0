-- `fill_rest` meets its contract: the letters' rows, and the lexicons' row after them.
use native.Mathlib.Omega.{arith}
use mathlib.Core.Path.{ap, ap₂, ◌∙◌}
use mathlib.Core.List.{List, ◌++◌}
use Prim.Native.Nat.{ℕ}
use lib.ListN.{length}
use borrow.Rule.Slice.PartMut.{same_len_mid}
use Rattle.index.proofs.Laws.{candidates_part}
use Rattle.index.proofs.Parts.{length_zeros, first_part, second_part, both_parts}
use Rattle.index.proofs.fill_rest.Goals as goal

pub slice_bounds-fill_candidates-end : goal.slice_bounds-fill_candidates-end
slice_bounds-fill_candidates-end c =
    omega (arith, length_zeros 30976 256 c.args.out.now c.requires.out_value)

pub fill_candidates-requires : goal.fill_candidates-requires
fill_candidates-requires c =
    record { laid = c.requires.laid; out_value = first_part 30976 256 c.args.out.now c.requires.out_value }

pub slice_bounds-fill_lexicons-end : goal.slice_bounds-fill_lexicons-end
slice_bounds-fill_lexicons-end c =
    omega (arith, same_len_mid 0 30976 c.args.out.now c.fill_candidates.new.out c.fill_candidates.auto.out, length_zeros 30976 256 c.args.out.now c.requires.out_value)

pub fill_lexicons-requires : goal.fill_lexicons-requires
fill_lexicons-requires c =
    record { laid = c.requires.laid; row_value = second_part 30976 256 c.args.out.now c.requires.out_value c.fill_candidates.new.out (ap length c.fill_candidates.ensures ∙ candidates_part c.args.image.now) }

pub returns : goal.returns
returns c =
    let letters = c.fill_candidates.new.out in
    let lexicons = c.fill_lexicons.new.row in
    both_parts 30976 256 c.args.out.now c.requires.out_value letters (ap length c.fill_candidates.ensures ∙ candidates_part c.args.image.now) lexicons
    ∙ ap₂ (λ (x y : List ℕ). x ++ y) c.fill_candidates.ensures c.fill_lexicons.ensures
