-- `for_many` meets its contract: the other tests of the image, and then the index, filled or cleared.
use Prim.Native.Nat.{ℕ}
use native.Mathlib.Omega.{arith}
use borrow.Rule.Slice.PartMut.{same_len_mid}
use mathlib.Core.Path.{◌≡◌, sym, ap, ◌∙◌, subst}
use mathlib.Core.List.{List, ◌++◌}
use lib.ListN.{replicate}
use Rattle.model.specs.Blocks.{header}
use Rattle.model.specs.Refusals.{accepted, image_verdict}
use Rattle.image.specs.Accepted.{Accepted}
use Rattle.grammar.specs.Answers.{verdict_of}
use Rattle.grammar.proofs.Verdicts.{accepted_image, laid_some}
use Rattle.index.proofs.Parts.{length_zeros, first_part, one_part}
use Rattle.prepare.proofs.for_many.Goals as goal
use Rattle.prepare.proofs.for_many.Goals.{After-fill, In-Ok}

-- in the arm of a refused image, cleared
restored : (c : After-fill) → c.fill.new.self ≡ c.args.index.now
restored c =
    let index = c.args.index.now in
    let long = same_len_mid 0 39424 index c.check_columns.new.index c.check_columns.auto.index ∙ length_zeros 39424 146688 index c.requires.index_value in
    c.fill.ensures.after (λ y e. e) ∙ ap (λ (n : ℕ). replicate n 0) long ∙ sym c.requires.index_value

-- in the arm of an accepted image
passed : (c : In-Ok) → image_verdict c.args.image.now ≡ accepted
passed c = sym c.check_columns.ensures.verdict ∙ ap verdict_of c.in-Ok.is

pub slice_bounds-check_columns-end : goal.slice_bounds-check_columns-end
slice_bounds-check_columns-end c = omega (arith, length_zeros 39424 146688 c.args.index.now c.requires.index_value)

pub check_columns-requires : goal.check_columns-requires
check_columns-requires c = record { image_value = c.requires.image_value; index_value = first_part 39424 146688 c.args.index.now c.requires.index_value }

pub read_header-h-requires : goal.read_header-h-requires
read_header-h-requires c = let image = c.args.image.now in laid_some image (header image) (accepted_image image (passed c)).laid

pub fill-requires-in-Ok : goal.fill-requires-in-Ok
fill-requires-in-Ok c =
    record {
      accepted = subst (Accepted c.args.image.now) (sym c.read_header-h.ensures) (accepted_image c.args.image.now (passed (goal.at.fill-requires-in-Ok c).In-Ok));
      index_value = one_part 39424 146688 c.args.index.now c.requires.index_value c.check_columns.new.index
          ∙ ap (λ (l : List ℕ). l ++ replicate 146688 0) (c.check_columns.ensures.rows (ap verdict_of c.in-Ok.is));
    }

pub returns-in-Err : goal.returns-in-Err
returns-in-Err c =
    record {
      had = sym c.check_columns.ensures.verdict ∙ ap verdict_of c.in-Err.is;
      kept = restored (goal.at.returns-in-Err c).After-fill;
    }

pub shape_of-index-in-Ok : goal.shape_of-index-in-Ok
shape_of-index-in-Ok c = c.fill-in-Ok.auto.index ∙ same_len_mid 0 39424 c.args.index.now c.check_columns.new.index c.check_columns.auto.index

pub returns-in-Ok : goal.returns-in-Ok
returns-in-Ok c =
    record {
      had = record { verdict_is = passed (goal.at.returns-in-Ok c).In-Ok; header_is = c.read_header-h.ensures; indexed = c.fill-in-Ok.ensures };
      kept = tt;
    }
