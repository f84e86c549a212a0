-- `fill_candidates` meets its contract: the rows of the letters passed, and zeros after them.
use native.Mathlib.Omega.{arith}
use mathlib.Core.Path.{◌≡◌, sym, ap, ◌∙◌}
use Prim.Native.Nat.{◌+◌, ◌*◌, ◌-◌}
use lib.ListN.{length}
use borrow.Rule.Slice.PartMut.{same_len_mid}
use Rattle.model.specs.Blocks.{header}
use Rattle.letters.proofs.Laws.{laid_letters}
use Rattle.image.specs.Index.{candidate_row}
use Rattle.index.proofs.Laws.{length_candidate_row}
use Rattle.index.proofs.Candidates.{no_candidates}
use Rattle.tables.proofs.RowByRow.{rows_none, length_rows_to, lent_row, rows_more, rows_all}
use Rattle.index.proofs.fill_candidates.Goals as goal
use Rattle.index.proofs.fill_candidates.Goals.{Start}

begins : (s : Start) → length s.args.out.now ≡ 30976
begins s =
    let row = candidate_row s.args.image.now in
    let wide = length_candidate_row s.args.image.now in
    ap length (s.requires.out_value ∙ rows_none row wide 121) ∙ length_rows_to row wide 121 0 (omega arith)

pub loop-a-init : goal.loop-a-init
loop-a-init c =
    (begins (goal.at.loop-a-init c).Start, c.requires.out_value ∙ rows_none (candidate_row c.args.image.now) (length_candidate_row c.args.image.now) 121)

pub overflow_cast-a : goal.overflow_cast-a
overflow_cast-a c = omega (arith, c.requires.laid.limits.letters_most)

pub slice_bounds-fill_row-end : goal.slice_bounds-fill_row-end
slice_bounds-fill_row-end c = omega (arith, c.requires.laid.limits.letters_most)

pub fill_row-requires : goal.fill_row-requires
fill_row-requires c =
    record {
      laid = (c.requires.laid, omega arith);
      row_value =
          lent_row (candidate_row c.args.image.now) (length_candidate_row c.args.image.now) 121 c.loop-a.a
          (omega (arith, c.requires.laid.limits.letters_most)) c.loop-a.out c.loop-a.invariant.1;
    }

pub loop-a-preserved : goal.loop-a-preserved
loop-a-preserved c =
    let image = c.args.image.now in
    let a = c.loop-a.a in
    let more =
    rows_more (candidate_row image) (length_candidate_row image) 121 a
    (omega (arith, c.requires.laid.limits.letters_most)) c.loop-a.out c.loop-a.invariant.1 c.fill_row.new.row c.fill_row.ensures in
    (same_len_mid (256 * a) (256 * a + 256 - 256 * a) c.loop-a.out c.fill_row.new.row c.fill_row.auto.row ∙ c.loop-a.invariant.0, more)

pub shape_of-out : goal.shape_of-out
shape_of-out c =
    c.loop-a.invariant.0 ∙ sym (begins (goal.at.shape_of-out c).Start)

pub returns : goal.returns
returns c =
    let image = c.args.image.now in
    c.loop-a.invariant.1
    ∙ rows_all (candidate_row image) (length_candidate_row image) 121 ((header image).letters + 1) (λ i m. no_candidates image i (omega arith)) c.loop-a.a
    (omega (arith, laid_letters c.requires.laid)) (omega (arith, c.requires.laid.limits.letters_most))
