-- `forms::pairs::fill_flags` meets its contract.
use Prim.Native.Nat.{ℕ, ◌+◌, ◌≤◌}
use native.Mathlib.Omega.{arith}
use mathlib.Core.Path.{◌≡◌, sym, ◌∙◌, subst}
use mathlib.Core.List.{List}
use Rattle.forms.specs.Filling.{FlagsOf}
use Rattle.image.specs.Header.{header_of}
use Rattle.forms.proofs.PairLaws.{lexical_most, flags_none, flags_passed, flags_more}
use Rattle.forms.proofs.pairs.fill_flags.Goals as goal
use Rattle.forms.proofs.pairs.fill_flags.Goals.{else-s-eq0, then-s-eq0}

pub loop-p-init : goal.loop-p-init
loop-p-init c =
    flags_none c.args.image.now c.fill.new.self (c.fill.ensures.len ∙ c.requires.flags_len)

pub bounds-flags-from : goal.bounds-flags-from
bounds-flags-from c =
    omega (arith, c.loop-p.invariant.long, c.from.ensures, c.lexical_side-a.ensures, lexical_most c.args.image.now (header_of c.args.h) c.requires.accepted c.loop-p.p c.loop-p-test.true)

pub loop-p-preserved : goal.loop-p-preserved
loop-p-preserved c =
    let image = c.args.image.now in
    let h = header_of c.args.h in
    let l = c.loop-p in
    let e = c.surface_side-s.ensures in
    let there = c.loop-p-test.true in
    elim c.if-s-eq0.branch [
      | then-s-eq0 w ↦ let a = w.from.ensures ∙ w.lexical_side-a.ensures in
          let letter : w.from.result ≤ 120 = omega (arith, a, lexical_most image h c.requires.accepted l.p there) in
          subst (λ (x : List ℕ). FlagsOf image x (l.p + 1)) (sym w.flags-is) (flags_more image l.flags l.p l.invariant w.from.result letter a)
      | else-s-eq0 w ↦ subst (λ (x : List ℕ). FlagsOf image x (l.p + 1)) (sym w.flags-is) (flags_passed image l.flags l.p l.invariant (λ z. w.if-s-eq0.false (e ∙ z)))
    ]

pub returns : goal.returns
returns c =
    let l = c.loop-p in
    let a = c.args in
    let all : l.p ≡ a.h.pairs = omega arith in
    subst (FlagsOf a.image.now l.flags) all l.invariant
