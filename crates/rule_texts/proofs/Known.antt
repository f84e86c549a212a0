-- The pairs that a text names are known exactly when each rule's own pair is, and each pair of its contexts or the boundary.
use Prim.Native.Nat.{ℕ, ◌<◌}
use mathlib.Core.Bool.{Bool, true, false, ◌||◌}
use mathlib.Core.Path.{sym, subst}
use mathlib.Core.Logic.{◌↔◌, inl, inr}
use mathlib.Core.List.{List, ◌++◌}
use lib.Dec.{T, ltb, eqb, eqb→eq, ltb→lt, lt→ltb}
use Rattle.model.specs.Lists.{every}
use Rattle.model.proofs.Booleans.{and_out, and_in, left_or, right_or, eq→eqb}
use Rattle.model.proofs.Lists.{every_at, every_in}
use Rattle.contexts.specs.Operators.{Rule}
use Rattle.rule_texts.specs.Line.{rule}
use Rattle.rule_texts.specs.Text.{RuleOf, is_text, pairs_of, is_known, Known, KnowsPairs, knows_pairs, pairs_known}
use Rattle.rule_texts.proofs.TextGrammar.{over_text, rules_of}

module _ (pairs : ℕ) where
  known_out : (p : ℕ) → T (is_known pairs p) → Known pairs p
  known_out p h = go (ltb p pairs) (λ k. ltb→lt p pairs k) h
    where
      go : (b : Bool) → (T b → p < pairs) → T (b || eqb p 255) → Known pairs p
      go true f h = inl (f tt)
      go false f h = inr (eqb→eq p 255 h)

  known_in : (p : ℕ) → Known pairs p → T (is_known pairs p)
  known_in p (inl h) = left_or (ltb p pairs) (eqb p 255) (lt→ltb p pairs h)
  known_in p (inr e) = right_or (ltb p pairs) (eqb p 255) (eq→eqb p 255 e)

  knows_iff : (r : Rule) → T (knows_pairs pairs (rule r)) ↔ KnowsPairs pairs r
  knows_iff r =
      let ps = pairs_of r.left ++ pairs_of r.right in (
        λ h.
            let k = and_out (ltb r.own pairs) (every (is_known pairs) ps) h in
            (ltb→lt r.own pairs k.0, λ p m. known_out p (every_at (is_known pairs) ps m k.1)),
        λ h. and_in (ltb r.own pairs) (every (is_known pairs) ps) (lt→ltb r.own pairs h.0) (every_in (is_known pairs) ps (λ p m. known_in p (h.1 p m))),
      )

  pub known_iff : (t : List ℕ) → T (is_text t) → T (pairs_known pairs t) ↔ ((r : Rule) → RuleOf t r → KnowsPairs pairs r)
  unfolding pairs_known
  known_iff t h = (
    λ o r m. (knows_iff r).0 (every_at (λ r. knows_pairs pairs (rule r)) m.0 m.3 (subst T (over_text (knows_pairs pairs) t m.0 m.1 m.2) o)),
    λ f.
        let i = rules_of t h in
        subst T (sym (over_text (knows_pairs pairs) t i.0 i.1 i.2)) (every_in (λ r. knows_pairs pairs (rule r)) i.0 (λ r m. (knows_iff r).1 (f r (i.0, i.1, i.2, m)))),
  )
