-- Grammars that are alike have one list of all readings, for every query. It goes by the listing theorem: what a reading is, what it answers and its steps
-- are the same in both, so that either list is the one list of the other.
use Prim.Native.Nat.{ℕ, zero, suc, ◌<◌, ◌≤◌}
use native.Mathlib.Omega.{arith}
use mathlib.Core.Bool.{Bool, true, false, ◌&&◌, not}
use mathlib.Core.Path.{◌≡◌, refl, sym, ap, ap₂, ◌∙◌, subst}
use mathlib.Core.Logic.{◌⊎◌, inl, inr}
use mathlib.Core.List.{List, [], ◌∷◌, ◌++◌, map, Memᴰ}
use mathlib.Core.List.Memᴰ
use lib.ListN.{length}
use lib.Dec.{T, leb, ltb, ltb→lt, lt→ltb}
use Rattle.model.specs.Lists.{below, every, joined, same_list, is_zero}
use Rattle.model.specs.RuleTables.{fed, accepts}
use Rattle.model.specs.Lexicon.{linked, path_length}
use Rattle.model.specs.Grammar.{Grammar}
use Rattle.model.specs.Readings.{Reading, nulls, without_nulls, spelled, few_nulls, word_length, is_line, pairing_length, after_letter}
use Rattle.model.specs.Readings.{passes, is_linked, is_path, is_reading, up_to, beyond, ending_list, ending_steps, Ascending}
use Rattle.model.specs.Query.{Query, fits, answers}
use Rattle.model.specs.Tree.{readings}
use Rattle.model.proofs.Booleans.{and_out, and_in, out3, in3, out8, in8, true_of, false_of}
use Rattle.model.proofs.Lists.{below_from, every_at, every_same, map_same}
use Rattle.model.proofs.Listing.{ListsBy, listing, listing_unique}
use Rattle.alike.specs.Alike.{Alike}

-- each of a list's numbers is below a bound
abbrev AllBelow : ℕ → List ℕ → Type 0
AllBelow n xs = (x : ℕ) → Memᴰ x xs → x < n

-- the pairs after a letter are among all
beyond_in : (g : Grammar) (n : ℕ) (ps : List ℕ) (x : ℕ) → Memᴰ x (beyond g n ps) → Memᴰ x ps
unfolding beyond
beyond_in g n [] x m = m
beyond_in g zero (p ∷ ps) x m = m
beyond_in g (suc n) (p ∷ ps) x m = Memᴰ.tail (beyond_in g (after_letter (g.lexical p) (suc n)) ps x m)

fed_in : (n : ℕ) (ps : List ℕ) → AllBelow n ps → (x : ℕ) → Memᴰ x (fed n ps) → x ≤ n
unfolding fed
fed_in n ps i x m = go (Memᴰ.cases_cons m)
  where
    last : Memᴰ x ps ⊎ Memᴰ x (n ∷ []) → x ≤ n
    last (inl k) = let l = i x k in omega arith
    last (inr k) = let e = Memᴰ.eq_of_singleton k in omega arith

    go : (x ≡ n) ⊎ Memᴰ x (ps ++ (n ∷ [])) → x ≤ n
    go (inl e) = omega arith
    go (inr k) = last (Memᴰ.append_cases ps k)

linked_below : (g : Grammar) (es : List ℕ) (may : ℕ → Bool) (stop : Bool) → T (linked g.entries g.follows g.ends may stop es) → AllBelow g.entries es
unfolding linked
linked_below g [] may stop t x m = absurd (Memᴰ.not-nil m)
linked_below g (e ∷ es) may stop t x m =
    let u = out3 (may e) (ltb e g.entries) (linked g.entries g.follows g.ends (g.follows e) (g.ends e) es) t in
    go u (linked_below g es (g.follows e) (g.ends e) u.2 x) (Memᴰ.cases_cons m)
  where
    go : T (may e) × T (ltb e g.entries) × T (linked g.entries g.follows g.ends (g.follows e) (g.ends e) es) → (Memᴰ x es → x < g.entries)
        → (x ≡ e) ⊎ Memᴰ x es → x < g.entries
    go u r (inl d) = let l = ltb→lt e g.entries u.1 in omega arith
    go u r (inr k) = r k

-- what a reading holds is below the counts
reading_below : (g : Grammar) (r : Reading) → T (is_reading g r) → AllBelow g.entries r.path × AllBelow g.pairs r.pairing
unfolding is_reading is_path
reading_below g r t =
    let es = r.path in
    let ps = r.pairing in
    let m = out8 (is_path g es) (pairing_length ps) (every (λ p. ltb p g.pairs) ps) (same_list (spelled g.lexical ps) (joined (map g.form es))) (few_nulls g.lexical ps)
    (is_line g.surface ps) (is_line g.spoken ps) (passes g ps) t in
    (linked_below g es g.begins false (and_out (path_length es) (is_linked g es) m.0).1, λ p k. ltb→lt p g.pairs (every_at (λ p. ltb p g.pairs) ps k m.2))

module _ {g h : Grammar} (a : Alike g h) where
  pub alike_sym : Alike h g
  alike_sym = record {
    pairs = sym a.pairs;
    lexical = λ p l. sym (a.lexical p (omega arith));
    surface = λ p l. sym (a.surface p (omega arith));
    spoken = λ p l. sym (a.spoken p (omega arith));
    rules = sym a.rules;
    next = λ r l s p k. sym (a.next r (omega arith) s p (omega arith));
    final = λ r l s. sym (a.final r (omega arith) s);
    entries = sym a.entries;
    form = λ e l. sym (a.form e (omega arith));
    begins = λ e l. sym (a.begins e (omega arith));
    follows = λ e f l k. sym (a.follows e f (omega arith) (omega arith));
    ends = λ e l. sym (a.ends e (omega arith));
  }

  -- paths
  linked_to : (es : List ℕ) (may may' : ℕ → Bool) (stop stop' : Bool) → ((e : ℕ) → e < g.entries → may e ≡ may' e) → stop ≡ stop'
      → T (linked g.entries g.follows g.ends may stop es) → T (linked h.entries h.follows h.ends may' stop' es)
  unfolding linked
  linked_to [] may may' stop stop' m s t = subst T s t
  linked_to (e ∷ es) may may' stop stop' m s t =
      let u = out3 (may e) (ltb e g.entries) (linked g.entries g.follows g.ends (g.follows e) (g.ends e) es) t in
      let l : e < g.entries = ltb→lt e g.entries u.1 in
      in3 (may' e) (ltb e h.entries) (linked h.entries h.follows h.ends (h.follows e) (h.ends e) es)
      (subst T (m e l) u.0)
      (lt→ltb e h.entries (omega arith))
      (linked_to es (g.follows e) (h.follows e) (g.ends e) (h.ends e) (λ f k. a.follows e f l k) (a.ends e l) u.2)

  forms_same : (es : List ℕ) → AllBelow g.entries es → map g.form es ≡ map h.form es
  forms_same es i = map_same g.form h.form es (λ e m. a.form e (i e m))

  -- pairings
  module _ (ps : List ℕ) (i : AllBelow g.pairs ps) where
    lexical_same : map g.lexical ps ≡ map h.lexical ps
    lexical_same = map_same g.lexical h.lexical ps (λ p m. a.lexical p (i p m))

    surface_same : map g.surface ps ≡ map h.surface ps
    surface_same = map_same g.surface h.surface ps (λ p m. a.surface p (i p m))

    spoken_same : map g.spoken ps ≡ map h.spoken ps
    spoken_same = map_same g.spoken h.spoken ps (λ p m. a.spoken p (i p m))

  accepts_same : (r : ℕ) → r < g.rules → (ps : List ℕ) → ((p : ℕ) → Memᴰ p ps → p ≤ g.pairs) → (s : ℕ)
      → accepts (g.next r) (g.final r) s ps ≡ accepts (h.next r) (h.final r) s ps
  unfolding accepts
  accepts_same r l [] i s = ap (λ (b : Bool). not (is_zero s) && b) (a.final r l s)
  accepts_same r l (p ∷ ps) i s =
      ap (λ (b : Bool). not (is_zero s) && b)
      (ap (λ (x : ℕ). accepts (g.next r) (g.final r) x ps) (a.next r l s p (i p (Memᴰ.head refl))) ∙ accepts_same r l ps (λ q m. i q (Memᴰ.tail m)) (h.next r s p))

  passes_same : (ps : List ℕ) → AllBelow g.pairs ps → passes g ps ≡ passes h ps
  unfolding passes
  passes_same ps i =
      every_same (λ r. accepts (g.next r) (g.final r) 1 (fed g.pairs ps)) (λ r. accepts (h.next r) (h.final r) 1 (fed g.pairs ps)) (below g.rules)
      (λ r m. accepts_same r (below_from g.rules r m) (fed g.pairs ps) (fed_in g.pairs ps i) 1)
      ∙ ap₂ (λ (n k : ℕ). every (λ r. accepts (h.next r) (h.final r) 1 (fed n ps)) (below k)) a.pairs a.rules

  -- readings and what they answer; a line by the sides of its pairs
  abbrev line_of : List ℕ → Bool
  line_of sides = word_length (without_nulls sides) && leb (nulls sides) 8

  reading_to : (r : Reading) → T (is_reading g r) → T (is_reading h r)
  unfolding is_reading is_path
  reading_to r t =
      let es = r.path in
      let ps = r.pairing in
      let m = out8 (is_path g es) (pairing_length ps) (every (λ p. ltb p g.pairs) ps) (same_list (spelled g.lexical ps) (joined (map g.form es))) (few_nulls g.lexical ps)
      (is_line g.surface ps) (is_line g.spoken ps) (passes g ps) t in
      let p = and_out (path_length es) (is_linked g es) m.0 in
      let i = (reading_below g r t).0 in
      let j = (reading_below g r t).1 in
      in8 (is_path h es) (pairing_length ps) (every (λ p. ltb p h.pairs) ps) (same_list (spelled h.lexical ps) (joined (map h.form es))) (few_nulls h.lexical ps) (is_line h.surface ps)
      (is_line h.spoken ps) (passes h ps)
      (and_in (path_length es) (is_linked h es) p.0 (linked_to es g.begins h.begins false false a.begins refl p.1))
      m.1
      (subst (λ (n : ℕ). T (every (λ p. ltb p n) ps)) a.pairs m.2)
      (subst T (ap₂ (λ (x : List ℕ) (y : List (List ℕ)). same_list (without_nulls x) (joined y)) (lexical_same ps j) (forms_same es i)) m.3)
      (subst T (ap (λ (x : List ℕ). leb (nulls x) 8) (lexical_same ps j)) m.4)
      (subst T (ap line_of (surface_same ps j)) m.5)
      (subst T (ap line_of (spoken_same ps j)) m.6)
      (subst T (passes_same ps j) m.7)

  answers_to : (q : Query) (r : Reading) → T (is_reading g r) → T (answers g q r) → T (answers h q r)
  unfolding answers
  answers_to q r t u =
      let j = (reading_below g r t).1 in
      subst T (ap₂ (λ (x y : List ℕ). fits q.entries 0 r.path && (fits q.letters 0 (without_nulls x) && fits q.spoken 0 (without_nulls y))) (surface_same r.pairing j)
      (spoken_same r.pairing j)) u

  -- and their steps
  up_to_same : (n : ℕ) (ps : List ℕ) → AllBelow g.pairs ps → up_to g n ps ≡ up_to h n ps
  unfolding up_to
  up_to_same n [] i = refl
  up_to_same zero (p ∷ ps) i = refl
  up_to_same (suc n) (p ∷ ps) i =
      ap (λ (l : List ℕ). p ∷ l)
      (ap (λ (x : ℕ). up_to g (after_letter x (suc n)) ps) (a.lexical p (i p (Memᴰ.head refl))) ∙ up_to_same (after_letter (h.lexical p) (suc n)) ps (λ q m. i q (Memᴰ.tail m)))

  beyond_same : (n : ℕ) (ps : List ℕ) → AllBelow g.pairs ps → beyond g n ps ≡ beyond h n ps
  unfolding beyond
  beyond_same n [] i = refl
  beyond_same zero (p ∷ ps) i = refl
  beyond_same (suc n) (p ∷ ps) i =
      ap (λ (x : ℕ). beyond g (after_letter x (suc n)) ps) (a.lexical p (i p (Memᴰ.head refl))) ∙ beyond_same (after_letter (h.lexical p) (suc n)) ps (λ q m. i q (Memᴰ.tail m))

  ending_same : (es ps : List ℕ) → AllBelow g.entries es → AllBelow g.pairs ps → ending_list g es ps ≡ ending_list h es ps
  unfolding ending_list
  ending_same [] ps i j = refl
  ending_same (e ∷ es) ps i j =
      let n = length (h.form e) in
      ap (λ (x : List ℕ). suc e ∷ (up_to g (length x) ps ++ ending_list g es (beyond g (length x) ps))) (a.form e (i e (Memᴰ.head refl)))
      ∙ ap₂ (λ (x y : List ℕ). suc e ∷ (x ++ y)) (up_to_same n ps j)
      (ap (ending_list g es) (beyond_same n ps j) ∙ ending_same es (beyond h n ps) (λ f m. i f (Memᴰ.tail m)) (λ p m. j p (beyond_in h n ps p m)))

  steps_same : (r : Reading) → T (is_reading g r) → ending_steps g r ≡ ending_steps h r
  steps_same r t = ending_same r.path r.pairing (reading_below g r t).0 (reading_below g r t).1

-- the list of the one is the list of the other
alike_listing : {g h : Grammar} → Alike g h → (q : Query) → ListsBy (ending_steps g) g q (readings h q)
alike_listing {g} {h} a q = record {
  only = λ r m. let u = (listing h q).only r m in (reading_to (alike_sym a) r u.0, answers_to (alike_sym a) q r u.0 u.1);
  every_one = λ r t u. (listing h q).every_one r (reading_to a r t) (answers_to a q r t u);
  in_order = subst Ascending (map_same (ending_steps h) (ending_steps g) (readings h q) (λ r m. steps_same (alike_sym a) r ((listing h q).only r m).0)) (listing h q).in_order;
}

pub alike_readings : {g h : Grammar} → Alike g h → (q : Query) → readings g q ≡ readings h q
alike_readings {g} {h} a q = listing_unique (readings g q) (readings h q) (listing g q) (alike_listing a q)

-- and the same paths and readings, as tests
same_test : (a b : Bool) → (T a → T b) → (T b → T a) → a ≡ b
same_test true b f g = sym (true_of b (f tt))
same_test false b f g = sym (false_of b g)

pub alike_linked : {g h : Grammar} → Alike g h → (es : List ℕ) → is_linked g es ≡ is_linked h es
alike_linked {g} {h} a es =
    same_test (is_linked g es) (is_linked h es)
    (linked_to a es g.begins h.begins false false a.begins refl)
    (linked_to (alike_sym a) es h.begins g.begins false false (alike_sym a).begins refl)

pub alike_reading : {g h : Grammar} → Alike g h → (r : Reading) → is_reading g r ≡ is_reading h r
alike_reading {g} {h} a r = same_test (is_reading g r) (is_reading h r) (reading_to a r) (reading_to (alike_sym a) r)
