-- `put_columns` meets its contract: the first columns are copied, and each of them is looked at.
use borrow.Author.Rules.{rules}
use borrow.Author.Tests.{tests}
use native.Mathlib.Omega.{arith}
use mathlib.Core.Bool.{Bool, not}
use mathlib.Core.Path.{◌≡◌, sym, ap, ◌∙◌}
use mathlib.Core.List.{List, ◌++◌}
use Prim.Native.Nat.{ℕ}
use lib.Dec.{eqb}
use lib.ListN.{take, drop}
use Rattle.model.specs.Lists.{every}
use Rattle.std.specs.List.{list_all}
use Rattle.std.proofs.lemmas.Iterator.{YieldsList-from_slice}
use Rattle.std.proofs.lemmas.Iterator.Search.{all_from_yields_List}
use Rattle.sets.proofs.Lists.{every-list_all}
use Rattle.columns.proofs.Passes.{taken_front}
use Rattle.columns.proofs.put_columns.Goals as goal

pub returns-clause-out_after : goal.returns-clause-out_after
returns-clause-out_after c =
    let a = c.args in
    ap (λ (l : List ℕ). l ++ drop a.pairs a.out.now) (c.copy_from_slice.ensures.after ∙ taken_front a.pairs a.best.now (omega arith))

pub returns-clause-value : goal.returns-clause-value
returns-clause-value c =
    let a = c.args in
    let f : ℕ → Bool = λ x. not (eqb x a.columns) in
    let xs = take a.pairs a.best.now in
    let e : c.all.result ≡ list_all f xs = all_from_yields_List f _ _ _ c.all.ensures.ran (YieldsList-from_slice _ cc) (λ x b q k. search (rules, tests)) in
    e ∙ sym (every-list_all f xs) ∙ ap (every f) (taken_front a.pairs a.best.now (omega arith))
