-- The spoken line, document 02, (l): in a grammar of two levels a reading is document 01's, the two lines may be exchanged, and a listing may start from either.
use Prim.Native.Nat.{ℕ, zero, suc}
use mathlib.Core.Bool.{Bool, true, false, ◌&&◌, and_comm}
use mathlib.Core.Path.{◌≡◌, refl, sym, ap, ap₂, ◌∙◌, subst}
use mathlib.Core.Logic.{◌↔◌}
use mathlib.Core.List.{List, [], ◌∷◌, ◌++◌, Memᴰ}
use lib.ListN.{length}
use lib.Dec.{T}
use Rattle.model.specs.Grammar.{Grammar, TwoLevel}
use Rattle.model.specs.GrammarOf.{grammar_of}
use Rattle.model.specs.Readings.{Reading, after_letter, few_nulls, word_length, is_line, passes, is_path, word, speech, spells_path, is_reading, up_to, beyond, ending_list, ending_steps, Ascending}
use Rattle.model.specs.Query.{Query, fits, answers, analysis, generation, query_of, entry_numbers}
use Rattle.model.specs.Spoken.{is_plain_reading, turned, turned_query, spoken_query}
use Rattle.model.specs.Tree.{readings}
use Rattle.model.proofs.Booleans.{and_swap}
use Rattle.model.proofs.Lists.{map_same}
use Rattle.model.proofs.Listing.{listing, listing_unique}
use Rattle.model.proofs.Converse.{reading_of_lem, analysis_iff, converse}

-- the two tests of one line made twice
made_twice : (a w f z : Bool) → (a && (w && f) && (w && f) && z) ≡ (a && w && f && z)
made_twice false w f z = refl
made_twice true false f z = refl
made_twice true true false z = refl
made_twice true true true z = refl

-- a reading is document 01's
pub two_level : (g : Grammar) → TwoLevel g → (r : Reading) → is_reading g r ≡ is_plain_reading g r
unfolding is_reading
two_level g e r =
    ap (λ (side : ℕ → ℕ). spells_path g r && is_line g.surface r.pairing && is_line side r.pairing && passes g r.pairing) e
    ∙ made_twice (spells_path g r) (word_length (word g r)) (few_nulls g.surface r.pairing) (passes g r.pairing)

-- every image is of two levels
pub image_two_level : (image : List ℕ) → TwoLevel (grammar_of image)
unfolding grammar_of
image_two_level image = refl

-- step lists know only the lexical sides of the pairs and the forms of the entries
module _ (g h : Grammar) (sides : g.lexical ≡ h.lexical) (forms : g.form ≡ h.form) where
  up_to_same : (n : ℕ) (ps : List ℕ) → up_to g n ps ≡ up_to h n ps
  unfolding up_to
  up_to_same n [] = refl
  up_to_same zero (p ∷ ps) = refl
  up_to_same (suc n) (p ∷ ps) =
      ap {B = List ℕ} (λ l. p ∷ l) (ap (λ (side : ℕ → ℕ). up_to g (after_letter (side p) (suc n)) ps) sides ∙ up_to_same (after_letter (h.lexical p) (suc n)) ps)

  beyond_same : (n : ℕ) (ps : List ℕ) → beyond g n ps ≡ beyond h n ps
  unfolding beyond
  beyond_same n [] = refl
  beyond_same zero (p ∷ ps) = refl
  beyond_same (suc n) (p ∷ ps) = ap (λ (side : ℕ → ℕ). beyond g (after_letter (side p) (suc n)) ps) sides ∙ beyond_same (after_letter (h.lexical p) (suc n)) ps

  list_same : (es ps : List ℕ) → ending_list g es ps ≡ ending_list h es ps
  unfolding ending_list
  list_same [] ps = refl
  list_same (e ∷ es) ps =
      let n = length (h.form e) in
      ap (λ (form : ℕ → List ℕ). let k = length (form e) in suc e ∷ (up_to g k ps ++ ending_list g es (beyond g k ps))) forms
      ∙ ap₂ {C = List ℕ} (λ (x y : List ℕ). suc e ∷ (x ++ y)) (up_to_same n ps) (ap (ending_list g es) (beyond_same n ps) ∙ list_same es (beyond h n ps))

  pub steps_same : (r : Reading) → ending_steps g r ≡ ending_steps h r
  steps_same r = list_same r.path r.pairing

-- the lines exchanged: the same readings, which answer the same
module _ (g : Grammar) where
  pub turned_reading : (r : Reading) → is_reading (turned g) r ≡ is_reading g r
  unfolding is_reading is_path passes
  turned_reading r = ap (λ (b : Bool). b && passes g r.pairing) (and_swap (spells_path g r) (is_line g.spoken r.pairing) (is_line g.surface r.pairing))

  pub turned_answers : (q : Query) (r : Reading) → answers (turned g) (turned_query q) r ≡ answers g q r
  unfolding answers
  turned_answers q r = ap (λ (b : Bool). fits q.entries 0 r.path && b) (and_comm (fits q.spoken 0 (speech g r)) (fits q.letters 0 (word g r)))

  -- step order knows no line: a pair's number is the step
  pub turned_steps : (r : Reading) → ending_steps (turned g) r ≡ ending_steps g r
  turned_steps r = steps_same (turned g) g refl refl r

  -- so the list is the same whichever line comes first
  pub turned_listing : (q : Query) → readings (turned g) (turned_query q) ≡ readings g q
  turned_listing q =
      let l = readings (turned g) (turned_query q) in
      let t = listing (turned g) (turned_query q) in
      listing_unique l (readings g q)
      (record {
        only = λ r m. (subst T (turned_reading r) (t.only r m).0, subst T (turned_answers q r) (t.only r m).1);
        every_one = λ r i a. t.every_one r (subst T (sym (turned_reading r)) i) (subst T (sym (turned_answers q r)) a);
        in_order = subst Ascending (map_same (ending_steps (turned g)) (ending_steps g) l (λ r m. turned_steps r)) t.in_order;
      })
      (listing g q)

-- in a grammar of two levels there is nothing to exchange
turned_same : (g : Grammar) → TwoLevel g → turned g ≡ g
turned_same g e = λ i.
    record {
      pairs = g.pairs;
      lexical = g.lexical;
      surface = e i;
      spoken = sym e i;
      rules = g.rules;
      next = g.next;
      final = g.final;
      entries = g.entries;
      form = g.form;
      begins = g.begins;
      follows = g.follows;
      ends = g.ends;
    }

-- A listing that starts from the spoken line is analysis with the lines exchanged.
module _ (g : Grammar) (w : List ℕ) where
  pub spoken_turned : readings g (spoken_query w) ≡ readings (turned g) (query_of (analysis w))
  unfolding query_of
  spoken_turned = turned_listing (turned g) (query_of (analysis w))

  -- it lists exactly the readings that are spoken so
  pub spoken_iff : (r : Reading) → Memᴰ r (readings g (spoken_query w)) ↔ (T (is_reading g r) × (speech g r ≡ w))
  spoken_iff r = (
    λ m. let t = (reading_of_lem (turned g) w r).0 ((analysis_iff (turned g) w r).0 (subst (Memᴰ r) spoken_turned m)) in (subst T (turned_reading g r) t.0, t.1),
    λ t. subst (Memᴰ r) (sym spoken_turned) ((analysis_iff (turned g) w r).1 ((reading_of_lem (turned g) w r).1 (subst T (sym (turned_reading g r)) t.0, t.1))),
  )

  -- "on forms 1 and 2 it is plain analysis"
  pub spoken_plain : TwoLevel g → readings g (spoken_query w) ≡ readings g (query_of (analysis w))
  spoken_plain e = spoken_turned ∙ ap (λ (h : Grammar). readings h (query_of (analysis w))) (turned_same g e)

  -- generation asks nothing of either line
  generation_turned : (path : List ℕ) → readings (turned g) (query_of (generation path)) ≡ readings g (query_of (generation path))
  unfolding query_of
  generation_turned path = turned_listing g (query_of (generation path))

  -- the converse, from the spoken line: for the bytes of the reading's own path
  pub spoken_converse : (path : List ℕ) (r : Reading) → entry_numbers path ≡ r.path
      → Memᴰ r (readings g (spoken_query w)) ↔ (Memᴰ r (readings g (query_of (generation path))) × (speech g r ≡ w))
  spoken_converse path r e = let both = converse (turned g) w path r e in (
    λ m. let t = both.0 (subst (Memᴰ r) spoken_turned m) in (subst (Memᴰ r) (generation_turned path) t.0, t.1),
    λ h. subst (Memᴰ r) (sym spoken_turned) (both.1 (subst (Memᴰ r) (sym (generation_turned path)) h.0, h.1)),
  )
