-- Pairings as the code reads them, pair by pair: the letters and nulls of one level, given by the side of each pair, and the rules' states.
use Prim.Native.Nat.{ℕ, zero, suc, ◌+◌, ◌<◌, ◌≤◌}
use native.Mathlib.Omega.{arith}
use native.Mathlib.Decide.{dec_lt}
use mathlib.Core.Bool.{Bool, true, false, ◌&&◌}
use mathlib.Core.Path.{◌≡◌, refl, sym, ap, ◌∙◌, subst}
use mathlib.Core.List.{List, [], ◌∷◌, map}
use lib.ListN.{length, get_or, take, drop, length-map, drop_of_length-le}
use lib.Dec.{T, ltb, eqb, ltb→lt}
use borrow.Author.Tests.{ne_eqb, eq-eqb, eqb-true}
use Rattle.std.specs.List.{list_all}
use Rattle.std.specs.Prelude.{Option, Some, None, MatchOption, is_none}
use Rattle.std.specs.Option.{option_eq}
use Rattle.model.specs.Lists.{every, same_list}
use Rattle.model.specs.Blocks.{header}
use Rattle.model.specs.RuleTables.{pairs, boundary_pair}
use Rattle.model.specs.GrammarOf.{grammar_of}
use Rattle.model.specs.Readings.{nulls, without_nulls, spelled, pairing_length, passes}
use Rattle.model.proofs.Booleans.{true_of, false_of, of_true}
use Rattle.model.proofs.Rest.{drop_step, every_get_d}
use Rattle.model.proofs.Rules.{passes_from, start_to, start_alive, start_from, passes_alive, passes_from_lem, passes_to, finish_from, finish_to}
use Rattle.image.specs.Accepted.{Accepted}
use Rattle.model.proofs.Booleans.{within_below, within_above, within_true}
use Rattle.rules.specs.Live.{Live, Held, step_of, begun_of, alive_of, finish_of}
use Rattle.rules.specs.Paths.{LetterOf}
use Rattle.letters.specs.declared.Lexical.{Lexical}
use Rattle.judge.specs.Reading.{Listed}
use Rattle.rules.proofs.Stepping.{live_alive}

pub same_tests : (a b : Bool) → (T a → T b) → (T b → T a) → a ≡ b
same_tests true b f g = sym (true_of b (f tt))
same_tests false true f g = absurd (g tt)
same_tests false false f g = refl

pub listed_at : (image pairing : List ℕ) (i : ℕ) → Listed image pairing → i < length pairing → get_or pairing i 0 < (header image).pairs
listed_at image pairing i t h = ltb→lt (get_or pairing i 0) (header image).pairs (every_get_d (λ p. ltb p (header image).pairs) pairing i 0 h t)

-- `every` as the library has it
pub every-list_all : (f : ℕ → Bool) (xs : List ℕ) → every f xs ≡ list_all f xs
every-list_all f [] = refl
every-list_all f (x ∷ xs) = ap (λ (b : Bool). f x && b) (every-list_all f xs)

-- test 13, by the length and then pair by pair
module _ (pairs : ℕ) (ps : List ℕ) where
  abbrev pub pairing_right : Bool
  pairing_right = pairing_length ps && every (λ p. ltb p pairs) ps

  pub pairing_empty : length ps < 1 → pairing_right ≡ false
  pairing_empty h = ap (λ (b : Bool). b && every (λ p. ltb p pairs) ps) (within_below 1 40 (length ps) h)

  pub pairing_long : 40 < length ps → pairing_right ≡ false
  pairing_long h = ap (λ (b : Bool). b && every (λ p. ltb p pairs) ps) (within_above 1 40 (length ps) h)

  pub pairing_some : 1 ≤ length ps → length ps ≤ 40 → every (λ p. ltb p pairs) ps ≡ pairing_right
  pairing_some h k = ap (λ (b : Bool). b && every (λ p. ltb p pairs) ps) (sym (within_true 1 40 (length ps) h k))

-- x is a side of the pair that stands in a pairing
module _ (image : List ℕ) {x p q : ℕ} (same : p ≡ q) where
  pub lexical_is : x ≡ (get_or (pairs image) p boundary_pair).lexical → x ≡ (grammar_of image).lexical q
  unfolding grammar_of
  lexical_is e = rw same at e

  pub surface_is : x ≡ (get_or (pairs image) p boundary_pair).surface → x ≡ (grammar_of image).surface q
  unfolding grammar_of
  surface_is e = rw same at e

-- one level of a pairing
module _ (side : ℕ → ℕ) (ps : List ℕ) where
  pub length_spelled : length (spelled side ps) + nulls (map side ps) ≡ length ps
  length_spelled = go (map side ps) ∙ length-map ps side
    where
      go : (xs : List ℕ) → length (without_nulls xs) + nulls xs ≡ length xs
      go [] = refl
      go (zero ∷ xs) = omega (arith, go xs)
      go (suc x ∷ xs) = omega (arith, go xs)

  module _ (i : ℕ) where
    sides_end : length ps ≤ i → map side (drop i ps) ≡ []
    sides_end h = ap (map side) (drop_of_length-le ps h)

    nulls_end : length ps ≤ i → nulls (map side (drop i ps)) ≡ 0
    nulls_end h = ap nulls (sides_end h)

    module _ (inside : i < length ps) where
      sides_step : (a : ℕ) → side (get_or ps i 0) ≡ a → map side (drop i ps) ≡ a ∷ map side (drop (i + 1) ps)
      sides_step a e = ap (map side) (drop_step ps 0 i inside) ∙ ap {B = List ℕ} (λ x. x ∷ map side (drop (i + 1) ps)) e

      -- the pair has a null there
      module _ (e : side (get_or ps i 0) ≡ 0) where
        nulls_more : nulls (map side (drop i ps)) ≡ suc (nulls (map side (drop (i + 1) ps)))
        nulls_more = ap nulls (sides_step 0 e)

        pub spelled_same : spelled side (drop i ps) ≡ spelled side (drop (i + 1) ps)
        spelled_same = ap without_nulls (sides_step 0 e)

      -- the pair has a letter there
      module _ (some : side (get_or ps i 0) ≡ 0 → ⊥) where
        nulls_same : nulls (map side (drop i ps)) ≡ nulls (map side (drop (i + 1) ps))
        nulls_same = go (side (get_or ps i 0)) refl
          where
            go : (a : ℕ) → side (get_or ps i 0) ≡ a → nulls (map side (drop i ps)) ≡ nulls (map side (drop (i + 1) ps))
            go zero e = absurd (some e)
            go (suc a) e = ap nulls (sides_step (suc a) e)

        pub spelled_more : spelled side (drop i ps) ≡ side (get_or ps i 0) ∷ spelled side (drop (i + 1) ps)
        spelled_more = go (side (get_or ps i 0)) refl
          where
            go : (a : ℕ) → side (get_or ps i 0) ≡ a → spelled side (drop i ps) ≡ side (get_or ps i 0) ∷ spelled side (drop (i + 1) ps)
            go zero e = absurd (some e)
            go (suc a) e = ap without_nulls (sides_step (suc a) e) ∙ ap {B = List ℕ} (λ x. x ∷ spelled side (drop (i + 1) ps)) (sym e)

-- a loop that counts the nulls of one level: those of the i pairs passed and those that are left are all of them
pub record Counted (side : ℕ → ℕ) (ps : List ℕ) (count i : ℕ) : Type 0 where
  pub in_pairs : i ≤ length ps
  pub in_passed : count ≤ i
  pub all : count + nulls (map side (drop i ps)) ≡ nulls (map side ps)

module _ (side : ℕ → ℕ) (ps : List ℕ) where
  pub counted_none : Counted side ps 0 0
  counted_none = record { in_pairs = omega arith; in_passed = omega arith; all = omega arith }

  module _ {count i : ℕ} (c : Counted side ps count i) where
    -- one more pair, whose side is x
    module _ {x : ℕ} (inside : i < length ps) (this : x ≡ side (get_or ps i 0)) where
      pub counted_null : {more : ℕ} → more ≡ count + 1 → x ≡ 0 → Counted side ps more (i + 1)
      counted_null m e = record { in_pairs = omega arith; in_passed = omega (arith, c.in_passed); all = omega (arith, c.all, nulls_more side ps i inside (sym this ∙ e)) }

      pub counted_letter : {same : ℕ} → same ≡ count → (x ≡ 0 → ⊥) → Counted side ps same (i + 1)
      counted_letter m some = record { in_pairs = omega arith; in_passed = omega (arith, c.in_passed); all = omega (arith, c.all, nulls_same side ps i inside (λ e. some (this ∙ e))) }

    pub counted_all : length ps ≤ i → (count ≡ nulls (map side ps)) × (count ≤ length ps)
    counted_all end = (omega (arith, c.all, nulls_end side ps i end), omega (arith, c.in_passed, c.in_pairs))

-- whether what is told of letter t, none after the last, is letter x
module _ (same : Lexical → Lexical → Bool) (same_is : (x y : Lexical) → same x y ≡ eqb x.0 y.0) (letters : List ℕ) (t : ℕ) where
  pub told_same : (told : Option Lexical) (x : Lexical) → MatchOption told (length letters ≤ t) (LetterOf letters t) → option_eq same told (Some x) ≡ true
      → (t < length letters) × (get_or letters t 0 ≡ x.0)
  told_same (Some y) x l e = (l.0, sym l.1 ∙ eqb-true y.0 x.0 (sym (same_is y x) ∙ e))
  told_same None x l e = absurd (of_true false e)

  pub told_other : (told : Option Lexical) (x : Lexical) → MatchOption told (length letters ≤ t) (LetterOf letters t) → option_eq same told (Some x) ≡ false
      → t < length letters → get_or letters t 0 ≡ x.0 → ⊥
  told_other (Some y) x l e h z = of_true false (sym (sym (same_is y x) ∙ e) ∙ eq-eqb y.0 x.0 (l.1 ∙ z))
  told_other None x l e h z = omega arith

-- the letters spelled and the letters asked for, of which t are passed
module _ (side : ℕ → ℕ) (ps asked : List ℕ) (i t : ℕ) where
  pub spells_null : i < length ps → side (get_or ps i 0) ≡ 0
      → same_list (spelled side (drop i ps)) (drop t asked) ≡ same_list (spelled side (drop (i + 1) ps)) (drop t asked)
  spells_null h e = ap (λ (l : List ℕ). same_list l (drop t asked)) (spelled_same side ps i h e)

  spells_here : i < length ps → (side (get_or ps i 0) ≡ 0 → ⊥)
      → same_list (spelled side (drop i ps)) (drop t asked) ≡ same_list (side (get_or ps i 0) ∷ spelled side (drop (i + 1) ps)) (drop t asked)
  spells_here h some = ap (λ (l : List ℕ). same_list l (drop t asked)) (spelled_more side ps i h some)

  pub spells_other : i < length ps → (side (get_or ps i 0) ≡ 0 → ⊥) → (t < length asked → get_or asked t 0 ≡ side (get_or ps i 0) → ⊥)
      → same_list (spelled side (drop i ps)) (drop t asked) ≡ false
  spells_other h some e = spells_here h some ∙ go (dec_lt t (length asked))
    where
      go : Dec (t < length asked) → same_list (side (get_or ps i 0) ∷ spelled side (drop (i + 1) ps)) (drop t asked) ≡ false
      go (yes l) = rw (drop_step asked 0 t l, ne_eqb (side (get_or ps i 0)) (get_or asked t 0) (λ z. e l (sym z))) refl
      go (no l) = rw (drop_of_length-le asked {i = t} (omega arith)) refl

  pub spells_letter : i < length ps → (side (get_or ps i 0) ≡ 0 → ⊥) → t < length asked → get_or asked t 0 ≡ side (get_or ps i 0)
      → same_list (spelled side (drop i ps)) (drop t asked) ≡ same_list (spelled side (drop (i + 1) ps)) (drop (t + 1) asked)
  spells_letter h some l e = spells_here h some ∙ rw (drop_step asked 0 t l, e, eq-eqb (side (get_or ps i 0)) (side (get_or ps i 0)) refl) refl

  -- no pair is left: whether a letter is
  pub spells_end : length ps ≤ i → (told : Option Lexical) → MatchOption told (length asked ≤ t) (LetterOf asked t)
      → same_list (spelled side (drop i ps)) (drop t asked) ≡ is_none told
  spells_end h told l = ap (λ (l : List ℕ). same_list (without_nulls l) (drop t asked)) (sides_end side ps i h) ∙ go told l
    where
      go : (told : Option Lexical) → MatchOption told (length asked ≤ t) (LetterOf asked t) → same_list [] (drop t asked) ≡ is_none told
      go (Some x) l = ap (same_list []) (drop_step asked 0 t l.0)
      go None l = ap (same_list []) (drop_of_length-le asked l)

-- the rules, in these states, accept the rest of a pairing
abbrev pub passes_in : List ℕ → List ℕ → List ℕ → Bool
passes_in image states ps = passes_from (grammar_of image).rules (grammar_of image).next (grammar_of image).final (grammar_of image).pairs (take (grammar_of image).rules states) ps

-- the whole pairing, by the states after the front
module _ {image states : List ℕ} (ps : List ℕ) where
  pub pass_begun : Held image (begun_of (grammar_of image)) states → passes_in image states ps ≡ passes (grammar_of image) ps
  unfolding passes
  pass_begun front =
      let g = grammar_of image in
      ap (λ (l : List ℕ). passes_from g.rules g.next g.final g.pairs l ps) front.states_are
      ∙ same_tests (passes_from g.rules g.next g.final g.pairs (begun_of g) ps) (passes g ps) (start_from g.rules g.next g.final g.pairs ps) (start_to g.rules g.next g.final g.pairs ps)

-- a rule has failed there
pub pass_dead : (image ps : List ℕ) → alive_of (grammar_of image) (begun_of (grammar_of image)) ≡ false → passes (grammar_of image) ps ≡ false
unfolding passes
pass_dead image ps dead =
    let g = grammar_of image in
    false_of (passes g ps) (λ t. subst T dead (start_alive g.rules g.next g.final g.pairs ps t))

-- the rules' states over a pairing
module _ {image : List ℕ} (ok : Accepted image (header image)) where
  module _ (states ps : List ℕ) (i : ℕ) where
    pub pass_end : Live image states → length ps ≤ i → passes_in image states (drop i ps) ≡ finish_of (grammar_of image) states
    pass_end live h =
        let g = grammar_of image in
        let s = take g.rules states in
        ap (passes_in image states) (drop_of_length-le ps h)
        ∙ same_tests (passes_in image states []) (finish_of g states) (finish_from g.rules g.next g.final g.pairs s) (finish_to g.rules g.next g.final g.pairs s (live_alive ok states live))

    module _ (p : ℕ) (inside : i < length ps) (this : p ≡ get_or ps i 0) where
      pass_step : passes_in image states (drop i ps) ≡ passes_in image states (p ∷ drop (i + 1) ps)
      pass_step = ap (passes_in image states) (drop_step ps 0 i inside ∙ ap {B = List ℕ} (λ x. x ∷ drop (i + 1) ps) (sym this))

      pub pass_on : (after : List ℕ) → Live image states → Held image (step_of (grammar_of image) states p) after → passes_in image states (drop i ps) ≡ passes_in image after (drop (i + 1) ps)
      pass_on after live step =
          let g = grammar_of image in
          let s = take g.rules states in
          let rest = drop (i + 1) ps in
          pass_step
          ∙ same_tests (passes_in image states (p ∷ rest)) (passes_from g.rules g.next g.final g.pairs (step_of g states p) rest)
          (passes_from_lem g.rules g.next g.final g.pairs p s rest) (passes_to g.rules g.next g.final g.pairs p s rest (live_alive ok states live))
          ∙ ap (λ (l : List ℕ). passes_from g.rules g.next g.final g.pairs l rest) (sym step.states_are)

      pub pass_fails : alive_of (grammar_of image) (step_of (grammar_of image) states p) ≡ false → passes_in image states (drop i ps) ≡ false
      pass_fails dead =
          let g = grammar_of image in
          let s = take g.rules states in
          let rest = drop (i + 1) ps in
          let on = λ (t : _). passes_alive g.rules g.next g.final g.pairs (step_of g states p) rest (passes_from_lem g.rules g.next g.final g.pairs p s rest t) in
          pass_step
          ∙ false_of (passes_in image states (p ∷ rest)) (λ t. subst T dead (on t))
