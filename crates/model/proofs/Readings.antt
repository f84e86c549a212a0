-- What a reading is, and what it answers, part by part.
use mathlib.Core.Bool.{Bool, ◌&&◌}
use mathlib.Core.Path.{◌≡◌}
use mathlib.Core.List.{map}
use lib.Dec.{T, ltb}
use Rattle.model.specs.Lists.{every, joined, same_list}
use Rattle.model.specs.Grammar.{Grammar}
use Rattle.model.specs.Readings.{Reading, spelled, few_nulls, is_line, pairing_length, passes, is_path, word, speech, is_reading}
use Rattle.model.specs.Query.{Query, fits, answers}
use Rattle.model.proofs.Booleans.{and_out, and_in, out8, in8, same_out, same_in}

-- the eight tests of a reading
pub record Parts (g : Grammar) (r : Reading) : Type 0 where
  pub path_right : T (is_path g r.path)
  pub pairs_few : T (pairing_length r.pairing)
  pub pairs_listed : T (every (λ p. ltb p g.pairs) r.pairing)
  pub forms_spelled : spelled g.lexical r.pairing ≡ joined (map g.form r.path)
  pub nulls_few : T (few_nulls g.lexical r.pairing)
  pub surface_right : T (is_line g.surface r.pairing)
  pub spoken_right : T (is_line g.spoken r.pairing)
  pub passing : T (passes g r.pairing)

module _ (g : Grammar) (r : Reading) where
  abbrev forms : Bool
  forms = same_list (spelled g.lexical r.pairing) (joined (map g.form r.path))

  pub parts_of : T (is_reading g r) → Parts g r
  unfolding is_reading
  parts_of t =
      let ps = r.pairing in
      let u = out8 (is_path g r.path) (pairing_length ps) (every (λ p. ltb p g.pairs) ps) forms (few_nulls g.lexical ps) (is_line g.surface ps) (is_line g.spoken ps) (passes g ps) t in
      record {
        path_right = u.0;
        pairs_few = u.1;
        pairs_listed = u.2;
        forms_spelled = same_out (spelled g.lexical ps) (joined (map g.form r.path)) u.3;
        nulls_few = u.4;
        surface_right = u.5;
        spoken_right = u.6;
        passing = u.7;
      }

  pub of_parts : Parts g r → T (is_reading g r)
  unfolding is_reading
  of_parts t =
      let ps = r.pairing in
      in8 (is_path g r.path) (pairing_length ps) (every (λ p. ltb p g.pairs) ps) forms (few_nulls g.lexical ps) (is_line g.surface ps) (is_line g.spoken ps) (passes g ps)
      t.path_right
      t.pairs_few
      t.pairs_listed
      (same_in (spelled g.lexical ps) (joined (map g.form r.path)) t.forms_spelled)
      t.nulls_few
      t.surface_right
      t.spoken_right
      t.passing

  -- what a query asks of its path and of its two lines
  module _ (q : Query) where
    abbrev path_fits : Bool
    path_fits = fits q.entries 0 r.path

    abbrev word_fits : Bool
    word_fits = fits q.letters 0 (word g r)

    abbrev speech_fits : Bool
    speech_fits = fits q.spoken 0 (speech g r)

    pub answers_out : T (answers g q r) → T path_fits × T word_fits × T speech_fits
    unfolding answers
    answers_out t =
        let u = and_out path_fits (word_fits && speech_fits) t in
        let v = and_out word_fits speech_fits u.1 in
        (u.0, v.0, v.1)

    pub answers_in : T path_fits → T word_fits → T speech_fits → T (answers g q r)
    unfolding answers
    answers_in p w s = and_in path_fits (word_fits && speech_fits) p (and_in word_fits speech_fits w s)
