-- `finish_all` meets its contract: the rules passed all end in a final state.
use native.Mathlib.Omega.{arith}
use mathlib.Core.Path.{◌≡◌, refl, sym, ap, ◌∙◌}
use Prim.Native.Nat.{ℕ, ◌<◌}
use Rattle.model.specs.Lists.{below, every}
use Rattle.model.specs.Blocks.{header}
use Rattle.model.proofs.Lists.{every_more, every_fails}
use Rattle.index.proofs.Laws.{laid_rules}
use Rattle.letters.proofs.Laws.{laid_pairs}
use Rattle.rules.proofs.Stepping.{ends_all, finish_is}
use Rattle.rules.proofs.states.finish_all.Goals as goal
use Rattle.rules.proofs.states.finish_all.Goals.{After-ends_final}

-- whether the rule ends in a final state
module _ (c : After-ends_final) where
  ended : c.ends_final.result ≡ ends_all c.args.image.now c.args.states c.args.h.pairs c.loop-rule.rule
  ended = c.ends_final.ensures

pub loop-rule-init : goal.loop-rule-init
loop-rule-init c = refl

pub ends_final-requires : goal.ends_final-requires
ends_final-requires c =
    let rules = laid_rules c.requires.accepted.laid in
    let pairs = laid_pairs c.requires.accepted.laid in
    let inside : c.loop-rule.rule < (header c.args.image.now).rules = omega arith in
    record { accepted = c.requires.accepted; index_value = c.requires.index_value; r_bound = (inside, omega arith); le_s = c.requires.live c.loop-rule.rule inside }

pub returns-then-not-ends_final : goal.returns-then-not-ends_final
returns-then-not-ends_final c =
    let rules = laid_rules c.requires.accepted.laid in
    let image = c.args.image.now in
    let fails = sym (ended (goal.at.returns-then-not-ends_final c).After-ends_final) ∙ c.if-not-ends_final.true in
    sym (every_fails (ends_all image c.args.states c.args.h.pairs) (header image).rules c.loop-rule.rule (omega arith) fails)
    ∙ finish_is image c.args.states c.args.h.pairs (laid_pairs c.requires.accepted.laid)

pub loop-rule-preserved : goal.loop-rule-preserved
loop-rule-preserved c =
    every_more (ends_all c.args.image.now c.args.states c.args.h.pairs) c.loop-rule.rule c.loop-rule.invariant
    (sym (ended (goal.at.loop-rule-preserved c).After-ends_final) ∙ c.if-not-ends_final.false)

pub returns : goal.returns
returns c =
    let image = c.args.image.now in
    let done : c.loop-rule.rule ≡ (header image).rules = omega (arith, laid_rules c.requires.accepted.laid) in
    sym c.loop-rule.invariant
    ∙ ap (λ (n : ℕ). every (ends_all image c.args.states c.args.h.pairs) (below n)) done
    ∙ finish_is image c.args.states c.args.h.pairs (laid_pairs c.requires.accepted.laid)
