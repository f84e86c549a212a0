-- The grammar that an image stands for, by its form.
use Rattle.std.specs.Prelude.{ℕ, ◌&&◌, List, [], map, get_or}
use Rattle.model.specs.Lists.{below, any}
use Rattle.model.specs.Blocks.{header}
use Rattle.model.specs.RuleTables.{pairs, boundary_pair, table, columns_of, next_state, is_final}
use Rattle.model.specs.Lexicon.{in_lexicon, entry, form_of, may_stop, goes_to}
use Rattle.model.specs.Grammar.{Grammar}

-- "the first from lexicon 0, each next from its predecessor's continuation, the last and only the last with 255"; of form 2: each next from one of the lexicons
-- that its predecessor names, and "An entry may both end and go on."
unfoldable pub grammar_of : List ℕ → Grammar
grammar_of image =
    let ps = pairs image in
    let tables = map (table image) (below (header image).rules) in
    let columns = map (columns_of image) (below (header image).rules) in
    record {
      pairs = (header image).pairs;
      lexical = λ p. (get_or ps p boundary_pair).lexical;
      surface = λ p. (get_or ps p boundary_pair).surface;
      spoken = λ p. (get_or ps p boundary_pair).surface;  -- no image has a spoken side of its own
      rules = (header image).rules;
      next = λ r s p. next_state (get_or tables r []) s (get_or (get_or columns r []) p 0);
      final = λ r s. is_final (get_or tables r []) s;
      entries = (header image).entries;
      form = λ e. form_of (entry image e);
      begins = in_lexicon image 0;
      follows = λ e f. any (λ x. goes_to (entry image e) (header image).form x && in_lexicon image x f) (below (header image).lexicons);
      ends = λ e. may_stop (entry image e) (header image).form;
    }
