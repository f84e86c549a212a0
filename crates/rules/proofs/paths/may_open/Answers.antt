-- `may_open` meets its contract: lexicon after lexicon, with the set moved on by one digit each.
use native.Mathlib.Omega.{arith}
use native.Mathlib.Nat.{zero-add}
use mathlib.Core.Bool.{◌&&◌}
use mathlib.Core.List.{List}
use mathlib.Core.Path.{◌≡◌, refl, sym, ap, ap₂, ◌∙◌}
use Prim.Native.Nat.{ℕ, suc, ◌+◌, ◌%◌}
use lib.Dec.{leb, ltb, eqb}
use Rattle.model.specs.Lists.{below, any, bit}
use Rattle.model.specs.Lexicon.{entry_count, first_entry, in_lexicon}
use Rattle.model.proofs.Booleans.{left_true, left_false}
use Rattle.lexicon.proofs.Laws.{first_none, first_more}
use Rattle.rules.specs.Paths.{in_some}
use Rattle.rules.proofs.PathLaws.{named, none_more, some_here}
use Rattle.rules.proofs.paths.may_open.Goals as goal
use Rattle.rules.proofs.paths.may_open.Goals.{After-is_here}

-- what is asked of lexicon x
here_is : (image : List ℕ) (lexicons bits e x first next rest : ℕ) → first ≡ first_entry image x → next ≡ first + entry_count image x → ((i : ℕ) → bit rest i ≡ bit bits (x + i))
    → (eqb (rest % 2) 1 && (leb first e && ltb e next)) ≡ named image lexicons bits e x
unfolding in_lexicon
here_is image lexicons bits e x first next rest a b d =
    let z : x + 0 ≡ x = omega arith in
    let n : next ≡ first_entry image x + entry_count image x = b ∙ ap (λ (k : ℕ). k + entry_count image x) a in
    let u : bit rest 0 ≡ bit bits x = d 0 ∙ ap (bit bits) z in
    λ i. u i && (leb (a i) e && ltb e (n i))

-- the turn's lexicon
module _ (c : After-is_here) where
  abbrev image : List ℕ
  image = c.args.image.now

  abbrev lexicons : ℕ
  lexicons = c.args.h.lexicons

  abbrev bits : ℕ
  bits = c.args.bits

  abbrev e : ℕ
  e = c.args.e

  abbrev x : ℕ
  x = c.loop-x.x

  seen : c.is_here.result ≡ named image lexicons bits e x
  seen =
      c.is_here.ensures
      ∙ here_is image lexicons bits e x c.loop-x.first (c.loop-x.first + c.entry_count.result) c.loop-x.rest c.loop-x.invariant.first_is
      (ap (λ (n : ℕ). c.loop-x.first + n) c.entry_count.ensures.0) c.loop-x.invariant.moved

pub loop-x-init : goal.loop-x-init
loop-x-init c = record { first_is = sym (first_none c.args.image.now); small = omega arith; moved = λ i. ap (bit c.args.bits) (sym (zero-add i)); none = refl }

pub entry_count-requires : goal.entry_count-requires
entry_count-requires c = record { laid = c.requires; x_lt_lexicons = omega arith }

pub overflow_add-next : goal.overflow_add-next
overflow_add-next c = omega (arith, c.loop-x.invariant.small, c.entry_count.ensures.1, c.requires.limits.lexicons_most)

pub returns-then-is_here : goal.returns-then-is_here
returns-then-is_here c =
    let place = (goal.at.returns-then-is_here c).After-is_here in
    sym (left_true (in_some (image place) (lexicons place) (bits place) (e place)) (ltb (e place) c.args.h.entries)
    (some_here (image place) (lexicons place) (bits place) (e place) (x place) (omega arith) (sym (seen place) ∙ c.if-is_here.true)))

pub loop-x-preserved : goal.loop-x-preserved
loop-x-preserved c =
    let place = (goal.at.loop-x-preserved c).After-is_here in
    let inv = c.loop-x.invariant in
    record {
      first_is = ap₂ (λ (m n : ℕ). m + n) inv.first_is c.entry_count.ensures.0 ∙ sym (first_more (image place) (x place));
      small = omega (arith, inv.small, c.entry_count.ensures.1);
      moved = λ i. let k : x place + suc i ≡ x place + 1 + i = omega arith in inv.moved (suc i) ∙ ap (bit (bits place)) k;
      none = none_more (image place) (lexicons place) (bits place) (e place) (x place) inv.none (sym (seen place) ∙ c.if-is_here.false);
    }

pub returns : goal.returns
returns c =
    let done : c.args.h.lexicons ≡ c.loop-x.x = omega arith in
    sym (left_false (in_some c.args.image.now c.args.h.lexicons c.args.bits c.args.e) (ltb c.args.e c.args.h.entries)
    (ap (λ (n : ℕ). any (named c.args.image.now c.args.h.lexicons c.args.bits c.args.e) (below n)) done ∙ c.loop-x.invariant.none))
