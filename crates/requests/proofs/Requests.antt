-- The query of a request is what the search is asked for: of the path and of the word, one exactly and the other anything, whatever its bytes are.
use Prim.Native.Nat.{ℕ}
use mathlib.Core.Path.{◌≡◌, refl, ap}
use mathlib.Core.List.{List}
use Rattle.model.specs.GrammarOf.{grammar_of}
use Rattle.model.specs.Query as model
use Rattle.model.specs.Query.{Query, analysis, generation, query_of}
use Rattle.model.specs.Tree.{readings}
use Rattle.model.specs.Calls.{all_readings}
use Rattle.listing.specs.declared.asked.Asked.{Asked}
use Rattle.listing.specs.declared.asked.PathAsked.{PathAsked}
use Rattle.listing.specs.declared.asked.WordAsked.{WordAsked}
use Rattle.listing.specs.Asked.{path_pattern, word_pattern, query_by}
use Rattle.requests.specs.declared.Request.{Request}
use Rattle.requests.specs.declared.Request.TheVariants.{Analysis, Generation}
use Rattle.requests.specs.Request.{request_of}

-- what the search is asked for, of a word and of a path
abbrev for_word : Asked
for_word = record { path = PathAsked.Anything; word = WordAsked.Exactly }

abbrev for_path : Asked
for_path = record { path = PathAsked.Exactly; word = WordAsked.Anything }

pub analysis_asks : (path word : List ℕ) → query_by for_word path word ≡ query_of (analysis word)
unfolding query_of path_pattern word_pattern
analysis_asks path word = refl

pub generation_asks : (path word : List ℕ) → query_by for_path path word ≡ query_of (generation path)
unfolding query_of path_pattern word_pattern
generation_asks path word = refl

-- so all readings that answer it are those of the search
module _ (image : List ℕ) where
  by_query : {q : Query} (request : model.Request) → q ≡ query_of request → readings (grammar_of image) q ≡ all_readings image request
  unfolding all_readings
  by_query request e = ap (readings (grammar_of image)) e

  pub analysis_readings : (request : Request) (path word : List ℕ) → request ≡ Analysis
      → readings (grammar_of image) (query_by for_word path word) ≡ all_readings image (request_of request word)
  analysis_readings request path word e = rw e (by_query (analysis word) (analysis_asks path word))

  pub generation_readings : (request : Request) (path word : List ℕ) → request ≡ Generation
      → readings (grammar_of image) (query_by for_path path word) ≡ all_readings image (request_of request path)
  generation_readings request path word e = rw e (by_query (generation path) (generation_asks path word))
