-- `fill_lexicons` meets its contract: where the lexicons passed begin, and zeros after them.
use borrow.Author.Rules.{rules}
use native.Mathlib.Omega.{arith}
use mathlib.Core.Path.{◌≡◌, sym, ap, ap₂, ◌∙◌}
use Prim.Native.Nat.{ℕ, ◌+◌, ◌<◌}
use lib.ListN.{length}
use Rattle.model.specs.Blocks.{Header}
use Rattle.model.specs.Lexicon.{first_entry}
use Rattle.image.specs.Index.{lexicon_row}
use Rattle.lexicon.proofs.Laws.{first_none, first_more}
use Rattle.index.proofs.Lexicons.{firsts_to, firsts_none, length_firsts_to, firsts_more, firsts_all}
use Rattle.index.proofs.fill_lexicons.Goals as goal
use Rattle.index.proofs.fill_lexicons.Goals.{After-put_number-2, Start}

begins : (s : Start) → length s.args.row.now ≡ 256
begins s = ap length (s.requires.row_value ∙ firsts_none s.args.image.now) ∙ length_firsts_to s.args.image.now 0 (omega arith)

pub loop-x-init : goal.loop-x-init
loop-x-init c =
    record { long = begins (goal.at.loop-x-init c).Start; stored = c.requires.row_value ∙ firsts_none c.args.image.now; small = search rules; first_is = sym (first_none c.args.image.now) }

pub overflow_mul-x : goal.overflow_mul-x
overflow_mul-x c = omega (arith, c.requires.laid.limits.lexicons_most)

pub put_number-requires : goal.put_number-requires
put_number-requires c =
    omega (arith, c.requires.laid.limits.lexicons_most, c.loop-x.invariant.long)

pub entry_count-first-requires : goal.entry_count-first-requires
entry_count-first-requires c =
    record { laid = c.requires.laid; x_lt_lexicons = search rules }

pub overflow_add-first : goal.overflow_add-first
overflow_add-first c =
    omega (arith, c.requires.laid.limits.lexicons_most)

pub loop-x-preserved : goal.loop-x-preserved
loop-x-preserved c =
    let image = c.args.image.now in
    let l = c.loop-x in
    let few : l.x < 128 = omega (arith, c.requires.laid.limits.lexicons_most) in
    let row = c.put_number.ensures ∙ firsts_more image l.x l.first l.row few l.invariant.stored l.invariant.first_is in
    record {
      long = ap length row ∙ length_firsts_to image (l.x + 1) (omega arith);
      stored = row;
      small = omega (arith, c.entry_count-first.ensures.1);
      first_is = ap₂ (λ (n m : ℕ). n + m) l.invariant.first_is c.entry_count-first.ensures.0 ∙ sym (first_more image l.x);
    }

pub overflow_mul-h : goal.overflow_mul-h
overflow_mul-h c = omega (arith, c.requires.laid.limits.lexicons_most)

pub put_number-requires-2 : goal.put_number-requires-2
put_number-requires-2 c =
    omega (arith, c.requires.laid.limits.lexicons_most, c.loop-x.invariant.long)

-- after the last lexicon comes the count of all entries
ended : (c : After-put_number-2) → (c.put_number-2.new.bytes ≡ firsts_to c.args.image.now (c.args.h.lexicons + 1)) × (c.put_number-2.new.bytes ≡ lexicon_row c.args.image.now)
ended c =
    let image = c.args.image.now in
    let n = c.args.h.lexicons in
    let l = c.loop-x in
    let here : l.x ≡ n = omega arith in
    let few : n < 128 = omega (arith, c.requires.laid.limits.lexicons_most) in
    let row = c.put_number-2.ensures ∙ firsts_more image n l.first l.row few (l.invariant.stored ∙ ap (firsts_to image) here) (l.invariant.first_is ∙ ap (first_entry image) here) in
    (row, row ∙ firsts_all image n (ap (λ (k : Header). k.lexicons) c.requires.laid.header_is) few)

pub shape_of-row : goal.shape_of-row
shape_of-row c =
    ap length (ended (goal.at.shape_of-row c).After-put_number-2).0 ∙ length_firsts_to c.args.image.now (c.args.h.lexicons + 1) (omega (arith, c.requires.laid.limits.lexicons_most))
    ∙ sym (begins (goal.at.shape_of-row c).Start)

pub returns : goal.returns
returns c = (ended (goal.at.returns c).After-put_number-2).1
