-- `put_blocks` meets its contract: block after block, the first k of the target are the first k as built and sealed.
use Prim.Native.Nat.{ℕ, ◌+◌, ◌*◌, ◌-◌}
use native.Mathlib.Omega.{arith}
use mathlib.Core.Path.{◌≡◌, refl, ap, ◌∙◌}
use mathlib.Core.List.{List, [], ◌++◌, append-nil}
use lib.ListN.{length, drop, length-take, length-drop, drop_of_length-le}
use borrow.Rule.Slice.PartMut.{same_len_mid}
use Rattle.model.specs.Lists.{below, flat_map}
use Rattle.model.specs.Blocks.{block_total}
use Rattle.image.specs.Header.{header_of}
use Rattle.converter.proofs.Stores.{parts_to, parts_more}
use Rattle.converter.proofs.BlockLaws.{blocks_wide, image_made}
use Rattle.converter.proofs.blocks.put_blocks.Invariants.{block_of}
use Rattle.converter.proofs.blocks.put_blocks.Goals as goal

none_yet : (f : ℕ → List ℕ) (target : List ℕ) → target ≡ parts_to [] f 512 target 0
unfolding parts_to
none_yet f target = refl

all_made : (f : ℕ → List ℕ) (target : List ℕ) (n : ℕ) → length target ≡ 512 * n → parts_to [] f 512 target n ≡ flat_map f (below n)
unfolding parts_to
all_made f target n e = ap (λ (l : List ℕ). flat_map f (below n) ++ l) (drop_of_length-le target {i = 0 + 512 * n} (omega arith)) ∙ append-nil (flat_map f (below n))

pub loop-k-init : goal.loop-k-init
loop-k-init c = (refl, none_yet _ _)

pub put_block-requires : goal.put_block-requires
put_block-requires c =
    let k = c.loop-k.k in
    let from = 512 * k in
    let target = c.loop-k.target in
    let part = length-take (from + 512 - from) (drop from target) in
    let rest = length-drop from target in
    let inside = c.loop-k-test.true in
    let long = c.requires.target_len in
    record { converting = c.requires.converting; block_len = (omega (arith, part, rest, c.loop-k.invariant.0, long, inside), omega (arith, long, inside)) }

pub loop-k-preserved : goal.loop-k-preserved
loop-k-preserved c =
    let k = c.loop-k.k in
    let from = 512 * k in
    let size : from + 512 - from ≡ 512 = omega arith in
    let begins : from ≡ 0 + 512 * k = omega arith in
    let target = c.loop-k.target in
    let part = c.put_block.new.block in
    let long = same_len_mid from (from + 512 - from) target part c.put_block.auto.block ∙ c.loop-k.invariant.0 in
    let f = block_of c.args.image.now (header_of c.args.o) in
    let wides = blocks_wide c.requires.converting k in
    let more = parts_more [] f 512 c.args.target.now k from (from + 512 - from) target part begins size wides c.loop-k.invariant.1 c.put_block.ensures in
    (long, more)

pub returns : goal.returns
returns c =
    let f = block_of c.args.image.now (header_of c.args.o) in
    let all : c.loop-k.k ≡ block_total (header_of c.args.o) = omega (arith, c.requires.target_len) in
    c.loop-k.invariant.1 ∙ ap (parts_to [] f 512 c.args.target.now) all ∙ all_made f c.args.target.now (block_total (header_of c.args.o)) c.requires.target_len ∙ image_made c.requires.converting
