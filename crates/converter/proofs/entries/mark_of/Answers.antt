-- `mark_of` meets its contract: to form 1 the end is 255 and the one lexicon its number; to form 2 the end is the number of its truth.
use Prim.Native.Nat.{ℕ, ◌<◌}
use native.Mathlib.Omega.{arith}
use mathlib.Core.Bool.{Bool, true, false, cond}
use mathlib.Core.Path.{◌≡◌, sym, ap, ap₂, ◌∙◌}
use lib.Count.{count_trailing_zeros}
use lib.Dec.{eqb}
use borrow.Author.Tests.{eq-eqb, ne_eqb}
use Rattle.model.specs.Lists.{below, first, bit}
use Rattle.converter.proofs.EntryLaws.{first_named, ending_number}
use Rattle.converter.proofs.entries.mark_of.Goals as goal
use Rattle.converter.proofs.entries.mark_of.Goals.{Else-stop}

-- by the two tests
marked : (form : ℕ) (stop two end : Bool) (z : ℕ) → eqb form 2 ≡ two → stop ≡ end → cond two (cond end 255 z) (cond end 1 0) ≡ cond (eqb form 2) (cond stop 255 z) (cond stop 1 0)
marked form stop two end z a b = sym (ap₂ (λ (x y : Bool). cond x (cond y 255 z) (cond y 1 0)) a b)

-- the lowest lexicon named
abbrev lowest_of : ℕ → ℕ
lowest_of bits = first (bit bits) (below 64) 0

-- the one way on, where it is asked for
module _ (c : Else-stop) where
  sole : (count_trailing_zeros 64 c.args.bits ≡ lowest_of c.args.bits) × (lowest_of c.args.bits < 64)
  sole = let p = c.requires c.if-form-eq2.true c.if-stop.false in first_named c.args.bits (omega (arith, c.ranges.bits.fits)) p.0 p.1

pub overflow_cast-result : goal.overflow_cast-result
overflow_cast-result c = omega (arith, sole c)

pub returns-then-stop : goal.returns-then-stop
returns-then-stop c = marked c.args.form c.args.stop true true (lowest_of c.args.bits) (eq-eqb c.args.form 2 c.if-form-eq2.true) c.if-stop.true

pub returns-then-form-eq2 : goal.returns-then-form-eq2
returns-then-form-eq2 c = (sole c).0 ∙ marked c.args.form c.args.stop true false (lowest_of c.args.bits) (eq-eqb c.args.form 2 c.if-form-eq2.true) c.if-stop.false

pub returns : goal.returns
returns c =
    let stop = c.args.stop in
    let other = ne_eqb c.args.form 2 c.if-form-eq2.false in
    c.from.ensures ∙ ending_number stop ∙ sym (ap (λ (two : Bool). cond two (cond stop 255 (lowest_of c.args.bits)) (cond stop 1 0)) other)
