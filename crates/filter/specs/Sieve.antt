-- What the search may rely on where it asks the filter: the sets of a word's letters, and of each lexicon those from which it may lead to the word's end.
use Rattle.std.specs.Prelude.{ℕ, ◌<◌, ◌≤◌, ◌⊎◌, ◌≡◌, true, length, get_or, T}
use mathlib.Core.List.{List, Memᴰ}
use Rattle.model.specs.Blocks.{header}
use Rattle.model.specs.GrammarOf.{grammar_of}
use Rattle.model.specs.Query.{Pattern, Query}
use Rattle.listing.specs.Opening.{may_enter}
use Rattle.forms.specs.Forms.{flags_in, FormsOf}
use Rattle.filter.specs.Reach.{Covers}
use Rattle.filter.specs.Lexicons.{Reaches}
use Rattle.positions.specs.Stack.{feasible_of, reach_of, Filled, Reached}
use Rattle.filter.specs.Listed.{Rising}
use Rattle.filter.specs.Survivors.{LeadsOn}

-- no index of forms was made, or it is one of the image
abbrev pub MayBe : List ℕ → List ℕ → Type 0
MayBe image forms = (length forms ≡ 0) ⊎ FormsOf image forms

-- a word that has a set for each of its letters and places
abbrev pub Writable : List ℕ → Type 0
Writable word = (length word ≤ 32) × ((i : ℕ) → i < length word → get_or word i 0 ≤ 120)

pub record Sieved (image : List ℕ) (q : Query) (forms masks reach : List ℕ) : Type 0 where
  pub forms_of_lem : FormsOf image forms
  pub filled : Filled masks (flags_in forms)
  pub reached : Reached reach
  pub covers : Covers (grammar_of image) q (feasible_of masks (flags_in forms))
  pub reaches : Reaches image q (feasible_of masks (flags_in forms)) (reach_of reach)

-- where there is no index of forms, nothing is known and nothing is asked
abbrev pub Sieve : List ℕ → Query → List ℕ → List ℕ → List ℕ → Type 0
Sieve image q forms masks reach = (length forms ≡ 0) ⊎ Sieved image q forms masks reach

-- xs are, ascending, entries that may open after entry `last`, and all of them that lead on
pub record Chosen (image : List ℕ) (path : Pattern) (forms masks reach : List ℕ) (last first : ℕ) (xs : List ℕ) : Type 0 where
  pub some : length forms ≡ 0 → ⊥
  pub rising : Rising 0 (header image).entries xs
  pub opens : (n k : ℕ) → k < length xs → may_enter image path last n (get_or xs k 0) ≡ true
  pub others : (n e : ℕ) → T (may_enter image path last n e) → (Memᴰ e xs → ⊥) → LeadsOn image masks (flags_in forms) reach first e → ⊥

-- what is kept of each lexicon still leaves nothing out
pub record Narrower (image forms masks reach reach' : List ℕ) : Type 0 where
  pub reached : Reached reach'
  pub reaches : (q : Query) → Reaches image q (feasible_of masks (flags_in forms)) (reach_of reach) → Reaches image q (feasible_of masks (flags_in forms)) (reach_of reach')
