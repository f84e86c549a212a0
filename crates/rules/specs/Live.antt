-- The states that the rules of an image hold, and what one pair does to all of them.
use Rattle.std.specs.Prelude.{ℕ, ◌<◌, ◌≤◌, Bool, true, false, ◌&&◌, not, ◌≡◌, List, get_or, take, Option, MatchOption}
use Rattle.model.specs.Lists.{is_zero}
use Rattle.model.specs.Blocks.{header}
use Rattle.model.specs.RuleTables.{table, state_count}
use Rattle.model.specs.Grammar.{Grammar}
use Rattle.model.specs.GrammarOf.{grammar_of}
use Rattle.model.specs.Tree.{step_all, alive, begun, finish}

-- each rule is in a state that its table has, and not in 0
abbrev pub Live : List ℕ → List ℕ → Type 0
Live image states = (r : ℕ) → r < (header image).rules → (1 ≤ get_or states r 0) × (get_or states r 0 ≤ state_count (table image r))

-- all rules, by pair p, from the states before it
abbrev pub step_of : Grammar → List ℕ → ℕ → List ℕ
step_of g states p = step_all g.rules g.next g.final (take g.rules states) p

-- all rules, by the boundary pair at the front
abbrev pub begun_of : Grammar → List ℕ
begun_of g = begun g.rules g.next g.final g.pairs

-- whether no rule is in state 0
abbrev pub alive_of : Grammar → List ℕ → Bool
alive_of g states = alive g.rules g.next g.final states

-- whether all rules come by the boundary pair to a final state
abbrev pub finish_of : Grammar → List ℕ → Bool
finish_of g states = finish g.rules g.next g.final (take g.rules states) g.pairs

-- all rules come to these states without failing, and the array holds them
pub record Held (image states after : List ℕ) : Type 0 where
  pub alive_is : alive_of (grammar_of image) states ≡ true
  pub states_are : take (grammar_of image).rules after ≡ states
  pub live : Live image after

-- the array that holds these states, or none where a rule fails to come to its own
abbrev pub Reached : List ℕ → List ℕ → Option (List ℕ) → Type 0
Reached image states after = MatchOption after (alive_of (grammar_of image) states ≡ false) (Held image states)

-- by pair p, from the states before it
abbrev pub StepOf : List ℕ → List ℕ → ℕ → Option (List ℕ) → Type 0
StepOf image states p = Reached image (step_of (grammar_of image) states p)

-- by the boundary pair at the front, from state 1
abbrev pub BegunOf : List ℕ → Option (List ℕ) → Type 0
BegunOf image = Reached image (begun_of (grammar_of image))

-- whether rule r, in state s, comes by pair p to a final state
unfoldable pub ends_final : Grammar → ℕ → ℕ → ℕ → Bool
ends_final g r s p = not (is_zero (g.next r s p)) && g.final r (g.next r s p)
