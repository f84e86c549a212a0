-- `lexical_marks` meets its contract: the lexical sides of the pairs passed are marked, and at the end not the null.
use borrow.Author.Rules.{rules}
use native.Mathlib.Omega.{arith}
use mathlib.Core.Path.{◌≡◌, ap, ◌∙◌}
use mathlib.Core.List.{List}
use Prim.Native.Nat.{ℕ}
use lib.ListN.{set}
use Rattle.model.specs.Lists.{byte}
use Rattle.model.specs.Blocks.{header}
use Rattle.image.specs.Header.{header_of}
use Rattle.letters.specs.Marks.{marks_of}
use Rattle.letters.proofs.Laws.{laid_pairs, pair_wide, pair_inside, lexical_byte}
use Rattle.letters.proofs.MarkLaws.{lexical_before, sides_start, sides_more, sides_all}
use Rattle.letters.proofs.marks.lexical_marks.Goals as goal

pub loop-p-init : goal.loop-p-init
loop-p-init c = sides_start c.args.image.now

pub side_start-requires-clause-p_lt_pairs : goal.side_start-requires-clause-p_lt_pairs
side_start-requires-clause-p_lt_pairs c = (omega arith, omega (arith, pair_wide (header_of c.args.h)))

pub lexical_at-a-requires : goal.lexical_at-a-requires
lexical_at-a-requires c = omega (arith, pair_inside c.requires c.loop-p.p (omega arith) 0 (omega (arith, pair_wide (header_of c.args.h))))

pub loop-p-preserved : goal.loop-p-preserved
loop-p-preserved c =
    let image = c.args.image.now in
    let p = c.loop-p.p in
    let side = c.from.ensures ∙ c.lexical_at-a.ensures ∙ ap (byte image) c.side_start.ensures ∙ lexical_byte c.requires p (omega arith) in
    ap (λ (l : List ℕ). set l c.from.result 1) c.loop-p.invariant ∙ sides_more image p c.from.result (omega (arith, laid_pairs c.requires)) side (search rules)

pub returns : goal.returns
returns c =
    let image = c.args.image.now in
    let all : c.loop-p.p ≡ (header image).pairs = omega (arith, laid_pairs c.requires) in
    ap (λ (m : List ℕ). set m 0 0) (c.loop-p.invariant ∙ ap (λ (n : ℕ). marks_of (lexical_before image n)) all) ∙ sides_all image
