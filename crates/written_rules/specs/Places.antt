-- A pairing between its boundaries as the code lays it out, and a rule's operator kept at a place of it, and at each.
use Rattle.std.specs.Prelude.{ℕ, suc, ◌-◌, ◌<◌, Bool, ◌≡◌, List, length, get_or, eqb}
use Rattle.contexts.specs.Operators.{Rule, kept_by, all, there, bounded}

-- place i of a pairing is place i + 1 between the boundaries; `letter` is the lexical letter of the rule's own pair
abbrev pub kept_at : Rule → ℕ → List ℕ → List ℕ → ℕ → Bool
kept_at r letter s letters i = kept_by r.operator (eqb (get_or s (suc i) 0) r.own) (eqb (get_or letters (suc i) 0) letter) (there r s (suc i))

abbrev pub kept_throughout : Rule → ℕ → List ℕ → List ℕ → Bool
kept_throughout r letter s letters = all (kept_at r letter s letters) (length s - 2)

-- the pairs between the boundaries, and the lexical letter of each
pub record LaidOut (lexical : ℕ → ℕ) (ps s letters : List ℕ) : Type 0 where
  pub pairs : s ≡ bounded ps
  pub lexical_letters : (i : ℕ) → i < length ps → get_or letters (suc i) 0 ≡ lexical (get_or ps i 0)
