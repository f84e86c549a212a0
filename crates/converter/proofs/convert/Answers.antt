-- `convert` meets its contract: the tests of the image, then 15, 16 and 17, and then the blocks.
use borrow.Author.Rules.{rules}
use native.Mathlib.Omega.{arith}
use Prim.Native.Nat.{ℕ, ◌*◌, ◌≤◌}
use mathlib.Core.Bool.{true}
use mathlib.Core.Path.{◌≡◌, sym, ap, subst, ◌∙◌}
use mathlib.Core.List.{List}
use lib.ListN.{length}
use Rattle.model.specs.Blocks.{Header, header, block_total}
use Rattle.model.specs.Refusals.{accepted, image_verdict}
use Rattle.model.proofs.Booleans.{of_true}
use Rattle.image.specs.Laid.{Counted, Laid}
use Rattle.grammar.proofs.Verdicts.{accepted_image, laid_some}
use Rattle.conversion.specs.Conversion.{other_header, one_ways, converted_blocks}
use Rattle.refusal.proofs.Given.{same_refusal}
use Rattle.converter.specs.Answers.{conversion_of}
use Rattle.conversion.proofs.Replies.{refused_image, refused_15, refused_16, refused_17, all_passed}
use Rattle.converter.proofs.BlockLaws.{other_counted}
use Rattle.converter.proofs.convert.Goals as goal

-- an image that is accepted, by the header that was read
is_laid : {image : List ℕ} {h : Header} → accepted ≡ image_verdict image → h ≡ header image → Laid image h
is_laid {image} ok read = subst (Laid image) (sym read) (accepted_image image (sym ok)).laid

-- and by the header in the other form
counted : (image : List ℕ) {h o : Header} → accepted ≡ image_verdict image → h ≡ header image → o ≡ other_header h → Counted o
counted image ok read other = subst Counted (sym other) (other_counted _ (is_laid {image = image} ok read).limits)

total_is : (image : List ℕ) {h o : Header} {total : ℕ} → h ≡ header image → o ≡ other_header h → total ≡ block_total o → total ≡ converted_blocks image
total_is image read other e = e ∙ ap block_total (other ∙ ap other_header read)

pub read_header-h-requires : goal.read_header-h-requires
read_header-h-requires c = let image = c.args.image.now in laid_some image (header image) (accepted_image image (sym c.in_ok-check.ensures)).laid

pub one_ways-requires : goal.one_ways-requires
one_ways-requires c = is_laid c.in_ok-check.ensures c.read_header-h.ensures

pub returns-then-not-one_ways : goal.returns-then-not-one_ways
returns-then-not-one_ways c =
    let r = refused_15 c.args.image.now c.args.target.now (sym c.in_ok-check.ensures) (sym c.if-not-one_ways.ensures) in
    record { reply = r.0; target = r.1 }

pub other_header-o-requires : goal.other_header-o-requires
other_header-o-requires c = omega (arith, (is_laid c.in_ok-check.ensures c.read_header-h.ensures).limits.form_most)

pub block_total-total-requires : goal.block_total-total-requires
block_total-total-requires c = counted c.args.image.now c.in_ok-check.ensures c.read_header-h.ensures c.other_header-o.ensures

pub returns-then-total-gt128 : goal.returns-then-total-gt128
returns-then-total-gt128 c =
    let total = total_is c.args.image.now c.read_header-h.ensures c.other_header-o.ensures c.block_total-total.ensures in
    let r = refused_16 c.args.image.now c.args.target.now (sym c.in_ok-check.ensures) (sym c.if-not-one_ways.ensures) (omega (arith, total, c.if-total-gt128.true)) in
    record { reply = r.0; target = r.1 }

pub overflow_mul-total : goal.overflow_mul-total
overflow_mul-total c = let l = c.if-total-gt128.false in search rules

pub returns-then-target-total : goal.returns-then-target-total
returns-then-target-total c =
    let image = c.args.image.now in
    let total = total_is c.args.image.now c.read_header-h.ensures c.other_header-o.ensures c.block_total-total.ensures in
    let few : converted_blocks image ≤ 128 = omega (arith, total, c.if-total-gt128.false) in
    let r = refused_17 image c.args.target.now (sym c.in_ok-check.ensures) (sym c.if-not-one_ways.ensures) few (λ d. omega (arith, d, total, c.if-target-total.true)) in
    record { reply = r.0; target = r.1 }

pub put_blocks-requires : goal.put_blocks-requires
put_blocks-requires c =
    record {
      converting = record {
        header_is = c.read_header-h.ensures;
        other_is = c.other_header-o.ensures;
        ok = sym c.in_ok-check.ensures;
        one_ways_lem = of_true _ (sym c.if-not-one_ways.ensures);
        few = omega (arith, c.block_total-total.ensures, c.if-total-gt128.false);
      };
      target_len = omega (arith, c.block_total-total.ensures, c.if-target-total.false);
    }

pub returns-in_err-check : goal.returns-in_err-check
returns-in_err-check c =
    let r = refused_image c.args.image.now c.args.target.now _ (sym c.in_err-check.ensures) in
    record { reply = ap conversion_of (same_refusal c.from_residual.result _ c.from_residual.ensures.1) ∙ r.0; target = r.1 }

pub returns : goal.returns
returns c =
    let image = c.args.image.now in
    let target = c.args.target.now in
    let total = total_is c.args.image.now c.read_header-h.ensures c.other_header-o.ensures c.block_total-total.ensures in
    let few : converted_blocks image ≤ 128 = omega (arith, total, c.if-total-gt128.false) in
    let long : length target ≡ 512 * converted_blocks image = omega (arith, total, c.if-target-total.false) in
    let r = all_passed image target (sym c.in_ok-check.ensures) (sym c.if-not-one_ways.ensures) few long in
    record { reply = r.0; target = c.put_blocks.ensures ∙ r.1 }
