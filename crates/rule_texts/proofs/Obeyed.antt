-- A pairing obeys a text exactly when the operator of each of its rules is kept at every place of the pairing.
use Prim.Native.Nat.{ℕ}
use mathlib.Core.Path.{◌≡◌, subst, sym}
use mathlib.Core.Logic.{◌↔◌}
use mathlib.Core.List.{List, Memᴰ}
use lib.Dec.{T}
use Rattle.model.specs.Lists.{every}
use Rattle.model.proofs.Lists.{every_at, every_in}
use Rattle.contexts.specs.Operators.{Rule, KeptThroughout, obeys}
use Rattle.contexts.proofs.Obeying.{obeys_iff}
use Rattle.rule_texts.specs.Line.{writable}
use Rattle.rule_texts.specs.Text.{TextOf, RuleOf, is_text, obeys_line, obeys_text}
use Rattle.rule_texts.proofs.TextGrammar.{over_text, rules_of}

module _ (lexical : ℕ → ℕ) (ps : List ℕ) where
  text_obeys : (t : List ℕ) (rs : List Rule) → TextOf rs t → T (every writable rs) → obeys_text lexical t ps ≡ every (λ r. obeys lexical r ps) rs
  unfolding obeys_text
  text_obeys t rs e h = over_text (λ x. obeys_line lexical x ps) t rs e h

  pub rules_obeyed_iff : (t : List ℕ) (rs : List Rule) → TextOf rs t → T (every writable rs) → T (obeys_text lexical t ps) ↔ ((r : Rule) → Memᴰ r rs → KeptThroughout lexical ps r)
  rules_obeyed_iff t rs e h =
      let q = text_obeys t rs e h in (
        λ o r m. (obeys_iff lexical r ps).0 (every_at (λ r. obeys lexical r ps) rs m (subst T q o)),
        λ f. subst T (sym q) (every_in (λ r. obeys lexical r ps) rs (λ r m. (obeys_iff lexical r ps).1 (f r m))),
      )

  -- "It replies holds exactly when each rule's operator, in the meaning above, is kept at every place of the pairing."
  pub obeyed_iff : (t : List ℕ) → T (is_text t) → T (obeys_text lexical t ps) ↔ ((r : Rule) → RuleOf t r → KeptThroughout lexical ps r)
  obeyed_iff t h = (
    λ o r m. (rules_obeyed_iff t m.0 m.1 m.2).0 o r m.3,
    λ f. let i = rules_of t h in (rules_obeyed_iff t i.0 i.1 i.2).1 (λ r m. f r (i.0, i.1, i.2, m)),
  )
