use mathlib.Core.Path.{◌≡◌}
use mathlib.Core.Bool.{Bool}
use mathlib.Core.List.{List}
use Prim.Native.Nat.{ℕ, ◌≤◌}
use lib.ListN.{drop}
use Rattle.model.specs.Lists.{same_list}
use Rattle.model.specs.GrammarOf.{grammar_of}
use Rattle.model.specs.Readings.{spelled}
use Rattle.rules.specs.Paths.{forms_of}
use Rattle.judge.proofs.reading.spells_forms.Given as goal

-- whether the pairs from i on spell the letters of the forms from t on
abbrev pub spell_on : List ℕ → List ℕ → List ℕ → ℕ → ℕ → Bool
spell_on image path pairing i t = same_list (spelled (grammar_of image).lexical (drop i pairing)) (drop t (forms_of image path))

abbrev pub invariant-loop-p : goal.invariant-loop-p
invariant-loop-p l = (l.t ≤ l.p-index) × (spell_on l.image l.path l.pairing l.p-index l.t ≡ same_list (spelled (grammar_of l.image).lexical l.pairing) (forms_of l.image l.path))
