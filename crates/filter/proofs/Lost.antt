-- Where the letters alone cannot lead to the word's end, nothing is found.
use Prim.Native.Nat.{ℕ, zero, suc, ◌-◌, ◌<◌, ◌≤◌}
use native.Mathlib.Omega.{arith}
use mathlib.Core.Bool.{Bool, true, false, ◌&&◌, not, true≢false}
use mathlib.Core.Path.{◌≡◌, refl, sym, ap₂, ◌∙◌, subst}
use mathlib.Core.Logic.{inl, inr}
use mathlib.Core.List.{List, [], ◌∷◌, ◌++◌, Memᴰ}
use lib.Dec.{T, leb, ltb, eqb→eq, leb→le}
use Rattle.model.specs.Lists.{below, given, flat_map}
use Rattle.model.specs.Grammar.{Grammar}
use Rattle.model.specs.Readings.{Reading}
use Rattle.model.specs.Query.{Query}
use Rattle.model.specs.Tree.{Node, opens, is_nil, spells, left, letters_and, nulls_and, allows_side, level_may, level_ends, line_may, line_ends, count_at, may_at, go_at, complete}
use Rattle.model.proofs.Booleans.{and_out, out3, out5}
use Rattle.model.proofs.Lists.{below_from}
use Rattle.listing.specs.Gather.{grow, gather}
use Rattle.positions.specs.Positions.{Feasible, Over, Leads}
use Rattle.filter.specs.Reach.{Covers, Onward, Hope, HopeAt, Sound}
use Rattle.filter.proofs.Leads.{here, inserted_more, leads_map}

none_of : {A B : Type 0} (h : A → List B) (xs : List A) → ((x : A) → Memᴰ x xs → h x ≡ []) → flat_map h xs ≡ []
none_of h [] e = refl
none_of {A} {B} h (x ∷ xs) e = ap₂ (λ (k l : List B). k ++ l) (e x (Memᴰ.head refl)) (none_of h xs (λ y m. e y (Memᴰ.tail m)))

none_given : {A : Type 0} (b : Bool) (l : List A) → (T b → l ≡ []) → given b l ≡ []
none_given true l e = e tt
none_given false l e = refl

not_given : {A : Type 0} (b : Bool) (l : List A) → (T b → ⊥) → given b l ≡ []
not_given true l e = absurd (e tt)
not_given false l e = refl

module _ (g : Grammar) (q : Query) (f : Feasible) (after : ℕ → ℕ → Bool) where
  onward_most : (ended stop : Bool) (ways : ℕ → Bool) (t u : ℕ) → t ≤ u → (i : ℕ) → Onward g q f after ended stop ways t i → Onward g q f after ended stop ways u i
  onward_most true stop ways t u h i s = inserted_more f t u (λ k. T (q.letters.may_end k)) i h s
  onward_most false stop ways t u h i (inl s) = inl (s.0, inserted_more f t u (λ k. T (q.letters.may_end k)) i h s.1)
  onward_most false stop ways t u h i (inr s) = inr s

  -- what is left over letters, with all 8 nulls to spare
  hope_leads : (xs : List ℕ) (ended stop : Bool) (ways : ℕ → Bool) (t : ℕ) → t ≤ 8 → (i : ℕ) → Hope g q f after t xs ended stop ways i → Leads f xs (Onward g q f after ended stop ways 8) i
  hope_leads [] ended stop ways t h i s = onward_most ended stop ways t 8 h i s
  hope_leads (a ∷ xs) ended stop ways t h i s = inserted_more f t 8 (Over f a (Leads f xs (Onward g q f after ended stop ways 8))) i h s

  hope_more : (xs : List ℕ) (ended stop : Bool) (ways : ℕ → Bool) (t u : ℕ) → t ≤ u → (i : ℕ) → Hope g q f after t xs ended stop ways i → Hope g q f after u xs ended stop ways i
  hope_more [] ended stop ways t u h i s = onward_most ended stop ways t u h i s
  hope_more (a ∷ xs) ended stop ways t u h i s = inserted_more f t u (Over f a (Leads f xs (Onward g q f after ended stop ways 8))) i h s

  -- an insertion more
  hope_insert : (xs : List ℕ) (ended stop : Bool) (ways : ℕ → Bool) (t i : ℕ) → (is_nil xs && not ended) ≡ false → T (f.pairs 0 i) → Hope g q f after t xs ended stop ways (suc i) → Hope g q f after (suc t) xs ended stop ways i
  hope_insert [] true stop ways t i o p s = inr (p, s)
  hope_insert [] false stop ways t i o p s = absurd (true≢false o)
  hope_insert (a ∷ xs) ended stop ways t i o p s = inr (p, s)

  -- a letter that is paired, by its surface side
  abbrev Fed : ℕ → ℕ → ℕ → Type 0
  Fed l zero i = T (f.deletes l)
  Fed l (suc s) i = T (f.pairs l i)

  hope_letter : (a : ℕ) (xs : List ℕ) (ended stop : Bool) (ways : ℕ → Bool) (t s i : ℕ) → t ≤ 8 → Fed a s i → Hope g q f after t xs ended stop ways (letters_and i s) → Hope g q f after t (a ∷ xs) ended stop ways i
  hope_letter a xs ended stop ways t zero i h p s = here f t (Over f a (Leads f xs (Onward g q f after ended stop ways 8))) i (inr (p, hope_leads xs ended stop ways t h i s))
  hope_letter a xs ended stop ways t (suc x) i h p s = here f t (Over f a (Leads f xs (Onward g q f after ended stop ways 8))) i (inl (p, hope_leads xs ended stop ways t h (suc i) s))

  -- one pair, by its sides
  hope_pair : (l s : ℕ) (rest : List ℕ) (ended stop : Bool) (ways : ℕ → Bool) (nulls i : ℕ) → (is_nil rest && not ended) ≡ false → T (spells rest l) → nulls_and nulls l ≤ 8 → Fed l s i
      → Hope g q f after (8 - nulls_and nulls l) (left rest l) ended stop ways (letters_and i s) → Hope g q f after (8 - nulls) rest ended stop ways i
  hope_pair zero zero rest ended stop ways nulls i o sp few p s = hope_more rest ended stop ways (8 - suc nulls) (8 - nulls) (omega arith) i s
  hope_pair zero (suc x) rest ended stop ways nulls i o sp few p s =
      let one : 8 - nulls ≡ suc (8 - suc nulls) = omega arith in
      subst (λ (t : ℕ). Hope g q f after t rest ended stop ways i) (sym one) (hope_insert rest ended stop ways (8 - suc nulls) i o p s)
  hope_pair (suc a) x [] ended stop ways nulls i o sp few p s = absurd sp
  hope_pair (suc a) x (y ∷ xs) ended stop ways nulls i o sp few p s =
      let e = eqb→eq y (suc a) sp in
      subst (λ (z : ℕ). Hope g q f after (8 - nulls) (z ∷ xs) ended stop ways i) (sym e) (hope_letter (suc a) xs ended stop ways (8 - nulls) x i (omega arith) p s)

  module _ (covers : Covers g q f) (sound : Sound g q f after) where
    -- an entry that opens leads on as what is kept after it says
    pub hope_entry : (e : ℕ) → e < g.entries → (t : ℕ) → t ≤ 8 → (i : ℕ) → Hope g q f after t (g.form e) false (g.ends e) (g.follows e) i → Leads f (g.form e) (λ k. T (after e k)) i
    hope_entry e inside t h i s = leads_map f (g.form e) (Onward g q f after false (g.ends e) (g.follows e) 8) (λ k. T (after e k)) (sound e inside) i (hope_leads (g.form e) false (g.ends e) (g.follows e) t h i s)

    fed_from : (p : ℕ) → p < g.pairs → (i s : ℕ) → g.surface p ≡ s → T (allows_side q.letters i s) → T (leb (letters_and i s) 32) → Fed (g.lexical p) s i
    fed_from p inside i zero e a h = covers.deleted p inside e
    fed_from p inside i (suc s) e a h = covers.paired p inside i (leb→le (suc i) 32 h) (λ z. omega (arith, sym e ∙ z)) (subst (λ (x : ℕ). T (q.letters.allows i x)) (sym e) a)

    -- what may come next leads on only from where there was hope
    step_stop : (n : Node) → opens n ≡ true → T (may_at g q true n 0) → HopeAt g q f after (go_at g q true n 0) → HopeAt g q f after n
    unfolding may_at go_at
    step_stop n o may s = go n.rest n.ended o s
      where
        go : (rest : List ℕ) (ended : Bool) → (is_nil rest && not ended) ≡ true → Hope g q f after (8 - n.nulls) rest true false (λ e. false) n.surface.letters → Hope g q f after (8 - n.nulls) rest ended n.stop n.ways n.surface.letters
        go [] false o s = inl (may, s)
        go [] true o s = absurd (true≢false (sym o))
        go (a ∷ xs) ended o s = absurd (true≢false (sym o))

    step_open : (n : Node) (x : ℕ) → opens n ≡ true → x < g.entries → T (may_at g q true n (suc x)) → HopeAt g q f after (go_at g q true n (suc x)) → HopeAt g q f after n
    unfolding may_at go_at
    step_open n x o inside may s = go n.rest n.ended o
      where
        go : (rest : List ℕ) (ended : Bool) → (is_nil rest && not ended) ≡ true → Hope g q f after (8 - n.nulls) rest ended n.stop n.ways n.surface.letters
        go [] false o = inr (x, (inside, ((out3 (ltb n.entries 16) (n.ways x) (q.entries.allows n.entries x) may).1, hope_entry x inside (8 - n.nulls) (omega arith) n.surface.letters s)))
        go [] true o = absurd (true≢false (sym o))
        go (a ∷ xs) ended o = absurd (true≢false (sym o))

    step_pair : (n : Node) (p : ℕ) → opens n ≡ false → p < g.pairs → T (may_at g q false n p) → HopeAt g q f after (go_at g q false n p) → HopeAt g q f after n
    unfolding may_at go_at
    step_pair n p o inside may s =
        let u = out5 (spells n.rest (g.lexical p)) (ltb n.pairs 40) (leb (nulls_and n.nulls (g.lexical p)) 8) _ _ may in
        let level = (and_out (level_may g.surface q.letters n.surface p) (line_may g.spoken q.spoken n.spoken p) u.3).0 in
        let c = n.surface in
        let v = out3 (allows_side q.letters c.letters (g.surface p)) (leb (letters_and c.letters (g.surface p)) 32) (leb (nulls_and c.nulls (g.surface p)) 8) level in
        hope_pair (g.lexical p) (g.surface p) n.rest n.ended n.stop n.ways n.nulls n.surface.letters o u.0 (leb→le _ 8 u.2)
        (fed_from p inside n.surface.letters (g.surface p) refl v.0 v.1) s

    ends_hope : (n : Node) → T (complete g q n) → HopeAt g q f after n
    unfolding complete
    ends_hope n t =
        let surface = level_ends g.surface q.letters n.surface in
        let spoken = line_ends g.spoken q.spoken n.spoken in
        let u = out5 (is_nil n.rest) n.ended (q.entries.may_end n.entries) (surface && spoken) _ t in
        let level = (and_out surface spoken u.3).0 in
        go n.rest n.ended u.0 u.1 (and_out (ltb 0 n.surface.letters) (q.letters.may_end n.surface.letters) level).1
      where
        go : (rest : List ℕ) (ended : Bool) → T (is_nil rest) → T ended → T (q.letters.may_end n.surface.letters) → Hope g q f after (8 - n.nulls) rest ended n.stop n.ways n.surface.letters
        go [] true a b m = here f (8 - n.nulls) (λ k. T (q.letters.may_end k)) n.surface.letters m
        go [] false a b m = absurd b
        go (x ∷ ys) ended a b m = absurd a

    step_hope : (b : Bool) (n : Node) (x : ℕ) → opens n ≡ b → x < count_at g q b n → T (may_at g q b n x) → HopeAt g q f after (go_at g q b n x) → HopeAt g q f after n
    unfolding count_at
    step_hope true n zero o inside may s = step_stop n o may s
    step_hope true n (suc x) o inside may s = step_open n x o (omega arith) may s
    step_hope false n x o inside may s = step_pair n x o inside may s

    -- the law
    pub lost : (k : ℕ) (n : Node) (r : Reading) → (HopeAt g q f after n → ⊥) → gather g q k n r ≡ []
    unfolding gather
    lost zero n r none = not_given (complete g q n) (r ∷ []) (λ t. none (ends_hope n t))
    lost (suc k) n r none =
        ap₂ (λ (x y : List Reading). x ++ y) (not_given (complete g q n) (r ∷ []) (λ t. none (ends_hope n t)))
        (none_of (λ x. given (may_at g q (opens n) n x) (gather g q k (go_at g q (opens n) n x) (grow (opens n) r x))) (below (count_at g q (opens n) n))
        (λ x m. none_given (may_at g q (opens n) n x) _ (λ may. lost k (go_at g q (opens n) n x) (grow (opens n) r x) (λ s. none (step_hope (opens n) n x refl (below_from (count_at g q (opens n) n) x m) may s)))))
