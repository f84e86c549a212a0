-- `fill` meets its contract: the index, and the index of forms after it.
use Prim.Native.Nat.{ℕ}
use native.Mathlib.Omega.{arith}
use borrow.Rule.Slice.PartMut.{put_mid, same_len_mid}
use mathlib.Core.Logic.{inr}
use mathlib.Core.Path.{◌≡◌, sym, ap, ◌∙◌, subst}
use mathlib.Core.List.{List, ◌++◌}
use lib.ListN.{length, take, drop, replicate, length-append, length-take, length-replicate}
use lib.Seq.{take_at, drop_at, take-append_seam, drop-append_seam}
use Rattle.model.specs.Lists.{below, flat_map}
use Rattle.image.specs.Index.{column_row, index_of}
use Rattle.tables.proofs.Rows.{columns_part}
use Rattle.index.proofs.Laws.{length_index_of}
use Rattle.index.proofs.Parts.{length_bytes, last_filled}
use Rattle.forms.specs.Forms.{FormsOf}
use Rattle.prepare.specs.Indexed.{Indexed}
use Rattle.prepare.proofs.fill.Goals as goal

joined : {image index forms : List ℕ} → index ≡ index_of image → length index ≡ 39424 → FormsOf image forms → Indexed image (index ++ forms)
joined {image} {index} {forms} e long f = record {
  long = omega (arith, length-append index forms, long);
  index_is = rw (sym long) (take-append_seam index forms) ∙ e;
  forms_are = inr (subst (FormsOf image) (sym (rw (sym long) (drop-append_seam index forms))) f);
}

-- the columns' rows and the room after them, in the index's own part
abbrev begun : List ℕ → List ℕ
begun image = flat_map (column_row image) (below 32) ++ replicate 31232 0

length_begun : (image : List ℕ) → length (begun image) ≡ 39424
length_begun image = omega (arith, length-append (flat_map (column_row image) (below 32)) (replicate 31232 0), columns_part image, length-replicate {A = ℕ} 31232 0)

module _ (image bytes : List ℕ) (e : bytes ≡ begun image ++ replicate 146688 0) where
  long : length bytes ≡ 186112
  long = length_bytes 39424 146688 (begun image) bytes (length_begun image) e

  index_part : take 39424 bytes ≡ begun image
  index_part = ap (take 39424) e ∙ take_at (begun image) (replicate 146688 0) 39424 (length_begun image)

  -- what is filled, in the place of both
  both : (index forms : List ℕ) → length index ≡ 39424 → put_mid 39424 146688 (index ++ drop 39424 bytes) forms ≡ index ++ forms
  both index forms k =
      let rest = ap (drop 39424) e ∙ drop_at (begun image) (replicate 146688 0) 39424 (length_begun image) in
      last_filled 39424 146688 index (index ++ drop 39424 bytes) k (ap (λ (l : List ℕ). index ++ l) rest) forms

pub slice_bounds-fill_index-end : goal.slice_bounds-fill_index-end
slice_bounds-fill_index-end c = omega (arith, long c.args.image.now c.args.index.now c.requires.index_value)

pub slice_bounds-fill_index-end-2 : goal.slice_bounds-fill_index-end-2
slice_bounds-fill_index-end-2 c = simp length-take (omega (arith, long c.args.image.now c.args.index.now c.requires.index_value))

pub fill_index-requires : goal.fill_index-requires
fill_index-requires c = record { accepted = c.requires.accepted; out_value = index_part c.args.image.now c.args.index.now c.requires.index_value }

pub slice_bounds-fill-end : goal.slice_bounds-fill-end
slice_bounds-fill-end c =
    omega (arith, same_len_mid 0 39424 c.args.index.now c.fill_index.new.out c.fill_index.auto.out, long c.args.image.now c.args.index.now c.requires.index_value)

pub returns : goal.returns
returns c =
    let index = c.fill_index in
    let forms = c.fill in
    let filled = ap length index.ensures ∙ length_index_of c.args.image.now in
    subst (Indexed c.args.image.now) (sym (both c.args.image.now c.args.index.now c.requires.index_value index.new.out forms.new.out filled))
    (joined index.ensures filled forms.ensures)
