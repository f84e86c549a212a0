-- Document 02, (l), over any grammar: what document 01 alone calls a reading; the two lines exchanged; and what is asked of a listing that starts from the spoken
-- line. No image has a spoken line of its own.
use Rattle.std.specs.Prelude.{ℕ, Bool, ◌&&◌, List}
use Rattle.model.specs.Grammar.{Grammar}
use Rattle.model.specs.Readings.{Reading, few_nulls, word_length, passes, spells_path, word}
use Rattle.model.specs.Query.{Query, exactly, anything}

-- document 01's reading, of the lexical level and the surface: the sentence quoted at `is_reading`, and nothing else
abbrev pub is_plain_reading : Grammar → Reading → Bool
is_plain_reading g r = spells_path g r && word_length (word g r) && few_nulls g.surface r.pairing && passes g r.pairing

-- the two lines exchanged, of a grammar and of what is asked
abbrev pub turned : Grammar → Grammar
turned g = record {
  pairs = g.pairs;
  lexical = g.lexical;
  surface = g.spoken;
  spoken = g.surface;
  rules = g.rules;
  next = g.next;
  final = g.final;
  entries = g.entries;
  form = g.form;
  begins = g.begins;
  follows = g.follows;
  ends = g.ends;
}

abbrev pub turned_query : Query → Query
turned_query q = record { entries = q.entries; letters = q.spoken; spoken = q.letters }

-- "A new call analyses spoken letters": of the surface nothing is asked
abbrev pub spoken_query : List ℕ → Query
spoken_query w = record { entries = anything; letters = anything; spoken = exactly w }
