-- What the judge is handed, in the model's words: pairs that the image has, the two levels, and the reading.
use Rattle.std.specs.Prelude.{ℕ, Bool, ◌&&◌, ◌≡◌, ◌<◌, List, length, get_or, T, ltb, eqb}
use Rattle.model.specs.Lists.{every, same_list}
use Rattle.model.specs.Blocks.{header}
use Rattle.model.specs.GrammarOf.{grammar_of}
use Rattle.model.specs.Readings.{Reading, spelled, few_nulls, word_length}
use Rattle.model.specs.Query.{entry_numbers}
use Rattle.rules.specs.Paths.{forms_of}

-- each number of a pairing is a pair's
abbrev pub Listed : List ℕ → List ℕ → Type 0
Listed image pairing = T (every (λ p. ltb p (header image).pairs) pairing)

-- a call tells of each pair of a pairing whether it has a null on the level that has these sides
abbrev pub NullsTold : (ℕ → Bool → Type 0) → (ℕ → ℕ) → List ℕ → Type 0
NullsTold Tells side pairing = (i : ℕ) (b : Bool) → i < length pairing → Tells (get_or pairing i 0) b → b ≡ eqb (side (get_or pairing i 0)) 0

-- what a reading asks of the two levels, but for the rules
abbrev pub levels_right : List ℕ → List ℕ → List ℕ → Bool
levels_right image path pairing =
    same_list (spelled (grammar_of image).lexical pairing) (forms_of image path)
    && few_nulls (grammar_of image).lexical pairing
    && word_length (spelled (grammar_of image).surface pairing)
    && few_nulls (grammar_of image).surface pairing

-- path and pairing as the reading that is judged
abbrev pub judged_reading : List ℕ → List ℕ → Reading
judged_reading path pairing = record { path = entry_numbers path; pairing = pairing }
