-- `fill_row` meets its contract: the row has the candidates among the pairs passed, and their count comes last.
use borrow.Author.Rules.{rules}
use native.Mathlib.Omega.{arith}
use mathlib.Core.Path.{◌≡◌, refl, sym, ap, ◌∙◌}
use mathlib.Core.List.{List, [], ◌∷◌, ◌++◌}
use Prim.Native.Nat.{ℕ, ◌+◌}
use lib.ListN.{length, set, length-append, length-set}
use Rattle.model.specs.Blocks.{header}
use Rattle.letters.proofs.Laws.{laid_pairs, laid_letters}
use Rattle.index.proofs.Candidates.{row_of, row_none, length_row_of, row_more, found, found_more, found_same, row_whole}
use Rattle.index.proofs.fill_row.Goals as goal
use Rattle.index.proofs.fill_row.Goals.{else-is_candidate, then-is_candidate}
use Rattle.index.proofs.fill_row.Goals.{At-loop-p}

-- the row keeps its length
size : (c : At-loop-p) → length c.loop-p.row ≡ 256
size c =
    ap length c.loop-p.invariant.stored ∙ length_row_of (found c.args.image.now c.args.a.0 c.loop-p.p) (omega (arith, c.requires.laid.0.limits.pairs_most))

pub loop-p-init : goal.loop-p-init
loop-p-init c = record { few = search rules; counted = refl; stored = c.requires.row_value ∙ row_none }

pub overflow_cast-row : goal.overflow_cast-row
overflow_cast-row c = omega (arith, c.requires.laid.0.limits.pairs_most)

pub bounds-row-n : goal.bounds-row-n
bounds-row-n c = omega (arith, size (goal.at.bounds-row-n c).At-loop-p, c.requires.laid.0.limits.pairs_most)

pub loop-p-preserved : goal.loop-p-preserved
loop-p-preserved c =
    let test = c.is_candidate in
    let image = c.args.image.now in
    let a = c.args.a.0 in
    let p = c.loop-p.p in
    let inv = c.loop-p.invariant in
    let xs = found image a p in
    elim c.if-is_candidate.branch [
      | then-is_candidate w ↦ let e : found image a (p + 1) ≡ xs ++ (p ∷ []) = found_more image a p (sym test.ensures ∙ w.if-is_candidate.true) in
          record {
            few = omega (arith, w.n-is);
            counted = w.n-is ∙ omega (arith, inv.counted, length-append xs (p ∷ [])) ∙ ap length (sym e);
            stored =
                w.row-is ∙ ap (λ (l : List ℕ). set l (c.loop-p.n + 1) p) inv.stored ∙ row_more xs c.loop-p.n p inv.counted (omega (arith, c.requires.laid.0.limits.pairs_most))
                ∙ ap row_of (sym e);
          }
      | else-is_candidate w ↦ let e : found image a (p + 1) ≡ xs = found_same image a p (sym test.ensures ∙ w.if-is_candidate.false) in
          record { few = omega (arith, w.n-is); counted = w.n-is ∙ inv.counted ∙ ap length (sym e); stored = w.row-is ∙ inv.stored ∙ ap row_of (sym e) }
    ]

pub overflow_cast-row-2 : goal.overflow_cast-row-2
overflow_cast-row-2 c = omega (arith, c.requires.laid.0.limits.pairs_most)

pub bounds-row-0 : goal.bounds-row-0
bounds-row-0 c = omega (arith, size (goal.at.bounds-row-0 c).At-loop-p)

pub shape_of-row : goal.shape_of-row
shape_of-row c = length-set c.loop-p.row 0 c.loop-p.n ∙ size (goal.at.shape_of-row c).At-loop-p ∙ sym (ap length c.requires.row_value)

pub returns : goal.returns
returns c =
    let image = c.args.image.now in
    let a = c.args.a.0 in
    let done : c.loop-p.p ≡ (header image).pairs = omega (arith, laid_pairs c.requires.laid.0) in
    ap (λ (l : List ℕ). set l 0 c.loop-p.n) (c.loop-p.invariant.stored ∙ ap (λ (p : ℕ). row_of (found image a p)) done)
    ∙ row_whole image a c.loop-p.n (omega (arith, c.requires.laid.1, laid_letters c.requires.laid.0)) (c.loop-p.invariant.counted ∙ ap (λ (p : ℕ). length (found image a p)) done)
    (omega (arith, c.requires.laid.0.limits.pairs_most))
