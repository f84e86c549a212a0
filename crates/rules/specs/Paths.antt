-- A path of an image, in the model's words: entries that the image has, and their joined forms.
use Rattle.std.specs.Prelude.{ℕ, ◌<◌, Bool, ◌&&◌, ◌≡◌, List, length, get_or, map, T, ltb}
use Rattle.model.specs.Lists.{below, every, any, joined, bit}
use Rattle.model.specs.Blocks.{header}
use Rattle.model.specs.Lexicon.{in_lexicon}
use Rattle.model.specs.GrammarOf.{grammar_of}
use Rattle.model.specs.Query.{entry_numbers}
use Rattle.letters.specs.declared.Lexical.{Lexical}

-- each number of a path is an entry's
abbrev pub Entered : List ℕ → List ℕ → Type 0
Entered image path = T (every (λ e. ltb e (header image).entries) (entry_numbers path))

-- the joined forms of a path
abbrev pub forms_of : List ℕ → List ℕ → List ℕ
forms_of image path = joined (map (grammar_of image).form (entry_numbers path))

-- x is letter t of these
abbrev pub LetterOf : List ℕ → ℕ → Lexical → Type 0
LetterOf letters t x = (t < length letters) × (x.0 ≡ get_or letters t 0)

-- entry e is in one of the lexicons that a set names
abbrev pub in_some : List ℕ → ℕ → ℕ → ℕ → Bool
in_some image lexicons bits e = any (λ x. bit bits x && in_lexicon image x e) (below lexicons)
