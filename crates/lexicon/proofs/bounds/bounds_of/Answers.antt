-- `bounds_of` meets its contract: the places passed have their bounds.
use native.Mathlib.Omega.{arith}
use native.Mathlib.Decide.{ℕ_discrete}
use mathlib.Core.Path.{◌≡◌, refl, ap, ◌∙◌}
use mathlib.Core.List.{List}
use Prim.Native.Nat.{ℕ, ◌+◌, ◌*◌, ◌<◌}
use lib.ListN.{set, length-set, length-replicate}
use lib.Seq.{get_or-set_same, get_or-set_other}
use Rattle.model.specs.Lists.{byte}
use Rattle.lexicon.specs.Bounds.{bound_of}
use Rattle.lexicon.proofs.Rows.{rows, row_place}
use Rattle.lexicon.proofs.bounds.bounds_of.Goals as goal
use Rattle.lexicon.proofs.bounds.bounds_of.Goals.{After-bound_of}

pub loop-j-init : goal.loop-j-init
unfolding rows
loop-j-init c = (length-replicate {A = ℕ} 208 0, refl, λ k h. absurd (omega arith))

-- the bounds after one more
module _ (c : After-bound_of) where
  abbrev bound : ℕ → ℕ
  bound k = bound_of c.args.letter c.args.anything (byte rows k)

  one : (k : ℕ) → Dec (k ≡ c.loop-j.j) → k < c.loop-j.j + 1 → byte (set c.loop-j.all c.loop-j.j c.bound_of.result) k ≡ bound k
  one k (yes e) h = rw e (get_or-set_same c.loop-j.all c.loop-j.j c.bound_of.result 0 (omega (arith, c.loop-j.invariant.0)) ∙ own)
    where
      own : c.bound_of.result ≡ bound c.loop-j.j
      own = c.bound_of.ensures ∙ ap (λ (l : List ℕ). bound_of c.args.letter c.args.anything (byte l c.loop-j.j)) c.loop-j.invariant.1
  one k (no e) h = get_or-set_other c.loop-j.all c.loop-j.j k c.bound_of.result 0 e ∙ c.loop-j.invariant.2 k (omega arith)

pub loop-j-preserved : goal.loop-j-preserved
loop-j-preserved c =
    let l = c.loop-j in
    (length-set l.all l.j c.bound_of.result ∙ l.invariant.0, l.invariant.1, λ k. one c k (ℕ_discrete k l.j))

pub returns : goal.returns
returns c =
    let l = c.loop-j in
    let a = c.args in
    record { bound = λ n i h k. l.invariant.2 (16 * n + i) (omega arith) ∙ ap (bound_of a.letter a.anything) (row_place n i h k) }
