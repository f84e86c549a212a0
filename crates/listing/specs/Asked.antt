-- What is asked of the path and of the word, as the model's patterns, and both as its query.
use Rattle.std.specs.Prelude.{ℕ, List}
use Rattle.model.specs.Query.{Pattern, Query, anything, exactly, entry_numbers}
use Rattle.listing.specs.declared.asked.Asked.{Asked}
use Rattle.listing.specs.declared.asked.PathAsked.{PathAsked}
use Rattle.listing.specs.declared.asked.WordAsked.{WordAsked}

-- of the path, given two bytes to an entry number
unfoldable pub path_pattern : PathAsked → List ℕ → Pattern
path_pattern PathAsked.Anything path = anything
path_pattern PathAsked.Exactly path = exactly (entry_numbers path)

-- of the word, given by its letters
unfoldable pub word_pattern : WordAsked → List ℕ → Pattern
word_pattern WordAsked.Anything word = anything
word_pattern WordAsked.Exactly word = exactly word

-- this word, whatever is asked of the path
abbrev pub word_query : WordAsked → List ℕ → Pattern → Query
word_query asked word path = record { entries = path; letters = word_pattern asked word; spoken = anything }

abbrev pub query_by : Asked → List ℕ → List ℕ → Query
query_by asked path word = word_query asked.word word (path_pattern asked.path path)
