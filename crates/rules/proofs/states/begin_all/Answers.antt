-- `begin_all` meets its contract: one step of all rules, from state 1, by the boundary pair.
use native.Mathlib.Omega.{arith}
use mathlib.Core.Path.{subst}
use mathlib.Core.List.{List}
use Prim.Native.Nat.{ℕ}
use Rattle.rules.specs.Live.{Reached}
use Rattle.letters.proofs.Laws.{laid_pairs}
use Rattle.rules.proofs.Tables.{accepted_here}
use Rattle.rules.proofs.Stepping.{ones_live, begun_is}
use Rattle.rules.proofs.states.begin_all.Goals as goal

pub step_all-requires : goal.step_all-requires
step_all-requires c = record { accepted = c.requires.accepted; index_value = c.requires.index_value; p_le_pairs = omega arith; live = ones_live (accepted_here c.requires.accepted) }

pub returns : goal.returns
returns c =
    let image = c.args.image.now in
    subst (λ (l : List ℕ). Reached image l c.step_all.result) (begun_is (accepted_here c.requires.accepted) c.args.h.pairs (laid_pairs c.requires.accepted.laid)) c.step_all.ensures
