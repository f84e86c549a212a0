-- `step_all` meets its contract: the rules passed are in their new states, none of them 0, and the others as they were.
use native.Mathlib.Omega.{arith}
use mathlib.Core.Path.{◌≡◌, sym, ap, ◌∙◌, subst}
use Prim.Native.Nat.{ℕ, ◌≤◌, ◌<◌}
use lib.ListN.{length, get_or}
use Rattle.model.specs.Blocks.{header}
use Rattle.model.specs.RuleTables.{table, state_count}
use Rattle.model.specs.GrammarOf.{grammar_of}
use Rattle.index.proofs.Laws.{laid_rules}
use Rattle.rules.proofs.Tables.{accepted_here}
use Rattle.letters.proofs.Laws.{laid_pairs}
use Rattle.rules.proofs.Stepping.{RulesTook, rules_took_none, rules_took_one, step_fails, step_lives}
use Rattle.rules.proofs.states.step_all.Goals as goal
use Rattle.rules.proofs.states.step_all.Goals.{After-next_state-s}

-- the rule's next state
module _ (c : After-next_state-s) where
  stepped : c.next_state-s.result ≡ (grammar_of c.args.image.now).next c.loop-r.r (get_or c.args.states c.loop-r.r 0) c.args.p
  stepped = c.next_state-s.ensures.0 ∙ ap (λ (n : ℕ). (grammar_of c.args.image.now).next c.loop-r.r n c.args.p) (c.loop-r.invariant.old c.loop-r.r (omega arith))

  inside : c.loop-r.r < (header c.args.image.now).rules
  inside = omega (arith, laid_rules c.requires.accepted.laid)

  size : length c.args.states ≡ 32
  size = c.well_formed.1.1.1.0.1.0.1

pub loop-r-init : goal.loop-r-init
loop-r-init c = rules_took_none c.args.image.now c.args.states c.args.p

pub next_state-s-requires : goal.next_state-s-requires
next_state-s-requires c =
    let rules = laid_rules c.requires.accepted.laid in
    let pairs = laid_pairs c.requires.accepted.laid in
    let image = c.args.image.now in
    let r : c.loop-r.r < (header image).rules = omega arith in
    let old = c.loop-r.invariant.old c.loop-r.r (omega arith) in
    record {
      accepted = c.requires.accepted;
      index_value = c.requires.index_value;
      r_bound = (r, omega (arith, c.requires.p_le_pairs));
      le_s = subst (λ (n : ℕ). (1 ≤ n) × (n ≤ state_count (table image c.loop-r.r))) (sym old) (c.requires.live c.loop-r.r r);
    }

pub returns-then-s-eq0 : goal.returns-then-s-eq0
returns-then-s-eq0 c =
    let place = (goal.at.returns-then-s-eq0 c).After-next_state-s in
    step_fails c.args.image.now c.args.states c.args.p c.loop-r.r c.next_state-s.result (inside place) (stepped place) c.if-s-eq0.true

pub loop-r-preserved : goal.loop-r-preserved
loop-r-preserved c =
    let place = (goal.at.loop-r-preserved c).After-next_state-s in
    rules_took_one c.args.image.now c.args.states c.args.p c.loop-r.r c.loop-r.after c.next_state-s.result
    (omega (arith, size place, inside place, c.requires.accepted.laid.limits.rules_most)) c.loop-r.invariant (stepped place) c.if-s-eq0.false

pub returns : goal.returns
returns c =
    let image = c.args.image.now in
    let done : c.loop-r.r ≡ (header image).rules = omega (arith, laid_rules c.requires.accepted.laid) in
    step_lives (accepted_here c.requires.accepted) c.args.states c.args.p c.loop-r.after c.well_formed.1.1.1.0.1.0.1
    (omega (arith, c.requires.p_le_pairs, laid_pairs c.requires.accepted.laid)) c.requires.live
    (subst (λ (n : ℕ). RulesTook image c.args.states c.args.p n c.loop-r.after) done c.loop-r.invariant)
