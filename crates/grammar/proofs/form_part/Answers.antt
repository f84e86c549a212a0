-- `form_part` meets its contract: the letters stand where the entry does, a byte on.
use native.Mathlib.Omega.{arith}
use mathlib.Core.Path.{◌≡◌, sym, ap, ap₂, ◌∙◌, subst}
use Prim.Native.Nat.{ℕ, ◌+◌, ◌-◌}
use lib.ListN.{take, drop}
use Rattle.model.specs.Blocks.{Header, record_start}
use Rattle.image.specs.Laid.{Limited}
use Rattle.model.specs.Beside.{form_start}
use Rattle.grammar.proofs.Verdicts.{Viewed, viewed_there, view_letters}
use Rattle.grammar.proofs.form_part.Goals as goal
use Rattle.grammar.proofs.form_part.Goals.{After-entry_start-from, Start}

-- what the companion has shown
there : (s : Start) → Viewed s.args.image.now s.args.e s.args.n
there s = viewed_there s.args.image.now s.args.e s.args.n s.requires

starts : (c : After-entry_start-from) → c.entry_start-from.result + 1 ≡ form_start c.args.image.now c.args.e
unfolding form_start
starts c =
    let e = c.args.e in
    ap (λ (n : ℕ). n + 1) (c.entry_start-from.ensures.0 ∙ ap (λ (h : Header). record_start h 6 e) c.read_header-h.ensures)

pub read_header-h-requires : goal.read_header-h-requires
read_header-h-requires c = (there (goal.at.read_header-h-requires c).Start).some

pub entry_start-from-requires : goal.entry_start-from-requires
entry_start-from-requires c =
    let here = goal.at.entry_start-from-requires c in
    let v = there here.Start in
    let header_is = c.read_header-h.ensures in
    record { limited = subst Limited (sym header_is) v.limits; e_lt_entries = omega (arith, v.entry_there, ap (λ (h : Header). h.entries) header_is) }

pub overflow_add-result : goal.overflow_add-result
overflow_add-result c = let v = there (goal.at.overflow_add-result c).Start in omega (arith, v.inside, starts c)

pub slice_bounds-result-end : goal.slice_bounds-result-end
slice_bounds-result-end c = let v = there (goal.at.slice_bounds-result-end c).Start in omega (arith, v.inside, starts c)

pub returns : goal.returns
returns c =
    let a = c.args in
    let w : c.entry_start-from.result + 1 + a.n - (c.entry_start-from.result + 1) ≡ a.n = omega arith in
    ap₂ (λ (k m : ℕ). take k (drop m a.image.now)) w (starts (goal.at.returns c).After-entry_start-from) ∙ view_letters a.image.now a.e a.n c.requires
