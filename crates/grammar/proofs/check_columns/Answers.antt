-- `check_columns` meets its contract: after tests 1 to 6 the verdict of `check`, and of an accepted image the columns that test 7 found.
use mathlib.Core.Path.{refl, sym, ap, ap₂, subst, ◌∙◌}
use mathlib.Core.List.{List, ◌++◌}
use Prim.Native.Nat.{ℕ}
use native.Mathlib.Omega.{arith}
use lib.ListN.{length, take, length-replicate}
use Rattle.tables.proofs.RowByRow.{take_replicate, drop_replicate}
use Rattle.model.specs.Blocks.{header}
use Rattle.model.proofs.Booleans.{of_true}
use Rattle.model.proofs.Tests.{clash}
use Rattle.image.specs.Header.{header_of}
use Rattle.image.specs.Laid.{Laid}
use Rattle.grammar.proofs.Verdicts.{laid_some, early_passed, refused_7, lexicon_judged}
use Rattle.grammar.proofs.check_columns.Goals as goal
use Rattle.grammar.proofs.check_columns.Goals.{After-read_header-h}

module _ (c : After-read_header-h) where
  abbrev image : List ℕ
  image = c.args.image.now

  read_laid : Laid image (header_of c.read_header-h.result)
  read_laid = subst (Laid image) (sym c.read_header-h.ensures) (early_passed image c.requires.image_value).0

pub read_header-h-requires : goal.read_header-h-requires
read_header-h-requires c = let image = c.args.image.now in laid_some image (header image) (early_passed image c.requires.image_value).0

pub slice_bounds-keep_columns-end : goal.slice_bounds-keep_columns-end
slice_bounds-keep_columns-end c = omega (arith, ap length c.requires.index_value ∙ length-replicate {A = ℕ} 39424 0)

pub keep_columns-requires : goal.keep_columns-requires
keep_columns-requires c =
    let here = goal.at.keep_columns-requires c in
    let pre = c.requires in
    record {
      laid = read_laid here.After-read_header-h;
      t = of_true _ (early_passed (image here.After-read_header-h) pre.image_value).2;
      out_value = ap (take 8192) pre.index_value ∙ take_replicate 8192 39424 0 (omega arith);
    }

pub returns-then-not-keep_columns : goal.returns-then-not-keep_columns
returns-then-not-keep_columns c =
    let here = goal.at.returns-then-not-keep_columns c in
    record { verdict = refused_7 (image here.After-read_header-h) c.requires.image_value (sym c.keep_columns.ensures.value ∙ c.if-not-keep_columns.true); rows = λ e. clash (cc) }

pub check_lexicon-requires : goal.check_lexicon-requires
check_lexicon-requires c =
    let here = goal.at.check_lexicon-requires c in
    record { laid = read_laid here.After-read_header-h; t = of_true _ (early_passed (image here.After-read_header-h) c.requires.image_value).1 }

pub returns : goal.returns
returns c =
    let here = goal.at.returns c in
    let right = c.if-not-keep_columns.false in
    let rest = drop_replicate c.args.index.now 39424 8192 8192 31232 0 c.requires.index_value refl refl in
    record {
      verdict = c.check_lexicon.ensures ∙ lexicon_judged (image here.After-read_header-h) c.requires.image_value (sym c.keep_columns.ensures.value ∙ right);
      rows = λ e. ap₂ (λ (x y : List ℕ). x ++ y) (c.keep_columns.ensures.out_after right) rest;
    }
