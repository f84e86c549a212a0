-- `one_ways` meets its contract: in form 1 nothing is asked; in form 2 the entries passed have one way on, and the first that has more decides.
use Prim.Native.Nat.{ℕ, ◌+◌}
use native.Mathlib.Omega.{arith}
use mathlib.Core.Bool.{Bool, true, ◌||◌, not, cond}
use mathlib.Core.Path.{◌≡◌, refl, sym, ap, ap₂, ◌∙◌}
use mathlib.Core.List.{List}
use lib.Dec.{leb, eqb}
use borrow.Author.Tests.{eq-eqb, ne_eqb}
use Rattle.model.specs.Lists.{below, every, count, bit}
use Rattle.model.specs.Blocks.{Header, header}
use Rattle.model.specs.Lexicon.{entry, may_stop, goes_to, way_count}
use Rattle.model.proofs.Lists.{every_more, every_fails}
use Rattle.image.specs.Header.{header_of}
use Rattle.image.specs.Laid.{Laid}
use Rattle.digits.specs.Ways.{Names}
use Rattle.conversion.specs.Conversion.{one_ways}
use Rattle.conversion.proofs.Ways.{count_alike}
use Rattle.converter.proofs.entries.one_ways.Invariants.{fewAt}
use Rattle.converter.proofs.entries.one_ways.Goals as goal
use Rattle.converter.proofs.entries.one_ways.Goals.{After-few_ways}

-- test 15 by the header that was read
module _ (image : List ℕ) (h : Header) (laid : Laid image h) where
  other_form : (h.form ≡ 2 → ⊥) → true ≡ one_ways image
  unfolding one_ways
  other_form n = sym (ap (λ (f : ℕ). not (eqb f 2) || every (fewAt image) (below (header image).entries)) (sym (ap (λ (g : Header). g.form) laid.header_is))
      ∙ rw (ne_eqb h.form 2 n) refl)

  by_entries : h.form ≡ 2 → every (fewAt image) (below h.entries) ≡ one_ways image
  unfolding one_ways
  by_entries two =
      sym
      (ap (λ (g : Header). not (eqb g.form 2) || every (fewAt image) (below g.entries)) (sym laid.header_is) ∙ rw (eq-eqb h.form 2 two) refl)

-- an entry's ways as a set
ways_are : (e : List ℕ) (form bits : ℕ) (stop : Bool) → form ≡ 2 → stop ≡ may_stop e form → Names (goes_to e form) bits
    → leb (count (bit bits) (below 64) + cond stop 1 0) 1 ≡ leb (way_count e 2) 1
unfolding way_count
ways_are e form bits stop two s names =
    ap₂ (λ (n : ℕ) (b : Bool). leb (n + cond b 1 0) 1) (sym (count_alike (goes_to e form) (bit bits) 64 names)) s
    ∙ ap (λ (f : ℕ). leb (count (goes_to e f) (below 64) + cond (may_stop e f) 1 0) 1) two

-- the entry that was looked at
module _ (c : After-few_ways) where
  two : c.args.h.form ≡ 2
  two = c.if-h-ne2.false

  looked : c.few_ways.result ≡ fewAt c.args.image.now c.loop-e.e
  looked =
      let w = c.ways_of-ways in
      c.few_ways.ensures ∙ ways_are (entry c.args.image.now c.loop-e.e) c.args.h.form w.result.bits w.result.stop two w.ensures.stop w.ensures.bits

pub returns-then-h-ne2 : goal.returns-then-h-ne2
returns-then-h-ne2 c = other_form c.args.image.now (header_of c.args.h) c.requires c.if-h-ne2.true

pub loop-e-init : goal.loop-e-init
loop-e-init c = refl

pub returns-then-not-few_ways : goal.returns-then-not-few_ways
returns-then-not-few_ways c =
    let image = c.args.image.now in
    sym (every_fails (fewAt image) c.args.h.entries c.loop-e.e (omega arith) (sym (looked (goal.at.returns-then-not-few_ways c).After-few_ways) ∙ c.if-not-few_ways.true))
    ∙ by_entries image (header_of c.args.h) c.requires (two (goal.at.returns-then-not-few_ways c).After-few_ways)

pub loop-e-preserved : goal.loop-e-preserved
loop-e-preserved c =
    every_more (fewAt c.args.image.now) c.loop-e.e c.loop-e.invariant (sym (looked (goal.at.loop-e-preserved c).After-few_ways) ∙ c.if-not-few_ways.false)

pub returns : goal.returns
returns c =
    let all : c.loop-e.e ≡ c.args.h.entries = omega arith in
    sym c.loop-e.invariant ∙ ap (λ (n : ℕ). every (fewAt c.args.image.now) (below n)) all ∙ by_entries c.args.image.now (header_of c.args.h) c.requires c.if-h-ne2.false
