-- `keep_columns` meets its contract: every rule passed has a column for each pair, kept in its row, and zeros after the rows.
use borrow.Author.Rules.{rules}
use native.Mathlib.Omega.{arith}
use mathlib.Core.Path.{◌≡◌, refl, sym, ap, subst, ◌∙◌}
use Prim.Native.Nat.{ℕ, ◌+◌, ◌*◌, ◌<◌, ◌≤◌, ◌-◌}
use lib.Dec.{T}
use lib.ListN.{length, length-replicate}
use borrow.Rule.Slice.PartMut.{same_len_mid}
use Rattle.model.specs.Lists.{below, every}
use Rattle.model.specs.Blocks.{Header, header}
use Rattle.image.specs.Header.{header_of}
use Rattle.image.specs.Index.{column_row}
use Rattle.letters.proofs.Laws.{laid_pairs}
use Rattle.model.proofs.Lists.{every_more, every_fails}
use Rattle.sets.proofs.Lists.{fails, passes}
use Rattle.tables.proofs.Laws.{columns_read}
use Rattle.tables.proofs.Rows.{length_column_row, columns_stored, no_columns}
use Rattle.tables.proofs.RowByRow.{rows_none, lent_row, rows_more, rows_all}
use Rattle.tables.proofs.keep_columns.Invariants.{right}
use Rattle.tables.proofs.keep_columns.Goals as goal
use Rattle.tables.proofs.keep_columns.Goals.{Start}

begins : (s : Start) → length s.args.out.now ≡ 8192
begins s = ap length s.requires.out_value ∙ length-replicate {A = ℕ} 8192 0

rules_are : (s : Start) → s.args.h.rules ≡ (header s.args.image.now).rules
rules_are s = ap (λ (k : Header). k.rules) s.requires.laid.header_is

pub loop-r-init : goal.loop-r-init
loop-r-init c =
    (begins (goal.at.loop-r-init c).Start, c.requires.out_value ∙ rows_none (column_row c.args.image.now) (length_column_row c.args.image.now) 32, refl)

pub returns-then-not-choose_columns : goal.returns-then-not-choose_columns
returns-then-not-choose_columns c =
    let f = right c.args.image.now in
    record {
      value = sym (every_fails f c.args.h.rules c.loop-r.r c.loop-r-test.true (fails {b = f c.loop-r.r} c.choose_columns.result c.choose_columns.ensures.value (search rules)))
          ∙ columns_read c.args.image.now (header_of c.args.h) c.requires.laid;
      out_after = λ e. absurd (subst T (sym e) tt);
    }

pub loop-r-preserved : goal.loop-r-preserved
loop-r-preserved c =
    let image = c.args.image.now in
    let laid = c.requires.laid in
    let r = c.loop-r.r in
    let few : r < 32 = omega (arith, laid.limits.rules_most) in
    let lent = lent_row (column_row image) (length_column_row image) 32 r few c.loop-r.out c.loop-r.invariant.1 in
    let all = rules_are (goal.at.loop-r-preserved c).Start in
    let stored = c.choose_columns.ensures.out_after ∙ columns_stored image r c.args.h.pairs _ (omega arith) (laid_pairs laid) (omega (arith, laid.limits.pairs_most)) lent in (
      same_len_mid (256 * r) (256 * r + 256 - 256 * r) c.loop-r.out c.choose_columns.new.out c.choose_columns.auto.out ∙ c.loop-r.invariant.0,
      rows_more (column_row image) (length_column_row image) 32 r few c.loop-r.out c.loop-r.invariant.1 c.choose_columns.new.out stored,
      every_more (right image) r c.loop-r.invariant.2 (passes {b = right image r} c.choose_columns.result c.choose_columns.ensures.value (search rules)),
    )

pub returns : goal.returns
returns c =
    let image = c.args.image.now in
    let l = c.loop-r in
    let e : l.r ≡ c.args.h.rules = omega arith in
    let all = rules_are (goal.at.returns c).Start in
    record {
      value = sym l.invariant.2 ∙ ap (λ (n : ℕ). every (right image) (below n)) e ∙ columns_read image (header_of c.args.h) c.requires.laid;
      out_after = λ ok.
          let few : l.r ≤ 32 = omega (arith, c.requires.laid.limits.rules_most) in
          l.invariant.1 ∙ rows_all (column_row image) (length_column_row image) 32 (header image).rules (λ i m. no_columns image i m) l.r (omega arith) few;
    }
