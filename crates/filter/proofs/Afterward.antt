-- What may come after an entry, by what is kept of its end and of each lexicon: of one way on, and of several.
use Prim.Native.Nat.{ℕ, ◌-◌, ◌^◌, ◌<◌}
use native.Mathlib.Omega.{arith}
use native.Mathlib.Decide.{ℕ_discrete}
use mathlib.Core.Bool.{Bool, true, false, ◌&&◌, not}
use mathlib.Core.Logic.{◌⊎◌, inl, inr, ⊎_elim}
use mathlib.Core.Path.{◌≡◌, refl, sym, ap, ◌∙◌, subst}
use mathlib.Core.List.{List}
use lib.ListN.{get_or}
use lib.Bits.{bit_or}
use lib.Dec.{T, eqb, eqb→eq}
use borrow.Author.Tests.{ne_eqb, eq-eqb}
use Rattle.model.specs.Lists.{below, any, bit}
use Rattle.model.specs.Blocks.{Header, header}
use Rattle.model.specs.Lexicon.{entry, may_stop, goes_to}
use Rattle.model.specs.Refusals.{right_entries}
use Rattle.model.proofs.Booleans.{and_out, and_in, left_or, right_or, of_true}
use Rattle.model.proofs.Lists.{below_has, below_from, any_from, any_has, bit_none}
use Rattle.image.specs.Accepted.{Accepted}
use Rattle.digits.specs.Ways.{Names}
use Rattle.digits.proofs.Bits.{digit_taken}
use Rattle.lexicon.specs.Sole.{WayOf}
use Rattle.lexicon.proofs.Laws.{ways_right}
use Rattle.lexicon.proofs.WayLaws.{goes_known, bits_known}
use Rattle.positions.specs.Stack.{reach_set, reach_of}
use Rattle.filter.specs.Sets.{Means}
use Rattle.filter.specs.Lexicons.{after_in}
use Rattle.filter.proofs.Runs.{or_left, or_right, or_out}
use Rattle.filter.proofs.Masks.{bit_or_lem}

module _ (image : List ℕ) where
  abbrev stops : ℕ → Bool
  stops e = may_stop (entry image e) (header image).form

  abbrev goes : ℕ → ℕ → Bool
  goes e = goes_to (entry image e) (header image).form

  -- its parts: the end, and each lexicon that the entry goes on to
  module _ (reach : ℕ → ℕ → Bool) (e i : ℕ) where
    abbrev ends : Bool
    ends = stops e && reach 255 i

    abbrev ons : Bool
    ons = any (λ x. goes e x && reach x i) (below (header image).lexicons)

    pub after_end : T (stops e) → T (reach 255 i) → T (after_in image reach e i)
    after_end s t = left_or ends ons (and_in (stops e) (reach 255 i) s t)

    pub after_way : (x : ℕ) → x < (header image).lexicons → T (goes e x) → T (reach x i) → T (after_in image reach e i)
    after_way x few s t = right_or ends ons (any_has (λ x. goes e x && reach x i) (below (header image).lexicons) (below_has (header image).lexicons x few) (and_in (goes e x) (reach x i) s t))

    pub after_from : T (after_in image reach e i) → (T (stops e) × T (reach 255 i)) ⊎ ((x : ℕ) × ((x < (header image).lexicons) × (T (goes e x) × T (reach x i))))
    after_from t = ⊎_elim (λ s. inl (and_out (stops e) (reach 255 i) s)) (λ s. inr (way s)) (or_out ends ons t)
      where
        way : T ons → (x : ℕ) × ((x < (header image).lexicons) × (T (goes e x) × T (reach x i)))
        way s =
            let w = any_from (λ x. goes e x && reach x i) (below (header image).lexicons)
            s in (w.0, (below_from (header image).lexicons w.0 w.1, and_out (goes e w.0) (reach w.0 i) w.2))

  -- by two families of sets of which one has what the other has
  pub after_map : (r s : ℕ → ℕ → Bool) → ((x i : ℕ) → T (r x i) → T (s x i)) → (e i : ℕ) → T (after_in image r e i) → T (after_in image s e i)
  after_map r s more e i t = ⊎_elim (λ u. after_end s e i u.0 (more 255 i u.1)) (λ u. after_way s e i u.0 u.1.0 u.1.1.0 (more u.0 i u.1.1.1)) (after_from r e i t)

-- what is taken together so far of an entry's ways on, and the lexicons that are left
pub record Taken (image reach : List ℕ) (e rest m : ℕ) : Type 0 where
  pub named : (x : ℕ) → T (bit rest x) → (x < (header image).lexicons) × T (goes image e x)
  pub only : (i : ℕ) → T (bit m i) → T (after_in image (reach_of reach) e i)
  pub all : (i : ℕ) → T (after_in image (reach_of reach) e i) → T (bit m i) ⊎ ((x : ℕ) × (T (bit rest x) × T (reach_of reach x i)))

-- of an accepted image
module _ (image : List ℕ) (h : Header) (a : Accepted image h) (reach : List ℕ) (e : ℕ) (inside : e < h.entries) where
  same : h ≡ header image
  same = a.laid.header_is

  right : T (right_entries image)
  right = of_true (right_entries image) a.entries_right

  -- a lexicon that an entry goes on to is one of the image
  pub known_way : (x : ℕ) → x < 64 → T (goes image e x) → x < (header image).lexicons
  known_way x few t =
      subst (λ (g : Header). x < g.lexicons) same
      (goes_known (entry image e) h.form h.lexicons (ways_right image h a.laid right e inside) x few (subst (λ (g : Header). T (goes_to (entry image e) g.form x)) (sym same) t))

  abbrev Afterward : ℕ → Type 0
  Afterward i = T (after_in image (reach_of reach) e i)

  -- one way on
  module _ (way : ℕ) (w : WayOf (entry image e) (header image).form way) where
    pub way_means : way < 64 → Means (get_or reach way 0) Afterward
    way_means few =
        let other : way ≡ 255 → ⊥ = λ z. omega arith in
        let self : T (goes image e way) = subst T (sym ((w.goes few).1 way few ∙ eq-eqb way way refl)) tt in
        let here : reach_set reach way ≡ get_or reach way 0 = rw (ne_eqb way 255 other) refl in
        record {
          only = λ i t. after_way image (reach_of reach) e i way (known_way way few self) self (subst (λ (m : ℕ). T (bit m i)) (sym here) t);
          all = λ i t. ⊎_elim
              (λ u. absurd (subst T (w.goes few).0 u.0))
              (λ u.
              let z = eqb→eq way u.0 (subst T ((w.goes few).1 u.0 (omega (arith, u.1.0, a.laid.limits.lexicons_most, ap (λ (g : Header). g.lexicons) same))) u.1.1.0) in
              subst (λ (m : ℕ). T (bit m i)) (ap (reach_set reach) (sym z) ∙ here) u.1.1.1)
              (after_from image (reach_of reach) e i t);
        }

    pub end_means : way ≡ 255 → Means (get_or reach 64 0) Afterward
    end_means z = record {
      only = λ i t. after_end image (reach_of reach) e i (of_true (stops image e) (w.ends z).0) t;
      all = λ i t. ⊎_elim
          (λ u. u.1)
          (λ u. absurd (subst T ((w.ends z).1 u.0 (omega (arith, u.1.0, a.laid.limits.lexicons_most, ap (λ (g : Header). g.lexicons) same))) u.1.1.0))
          (after_from image (reach_of reach) e i t);
    }

  place : (x : ℕ) → x < (header image).lexicons → reach_set reach x ≡ get_or reach x 0
  place x few =
      let other : x ≡ 255 → ⊥ = λ z. omega (arith, few, a.laid.limits.lexicons_most, ap (λ (g : Header). g.lexicons) same) in
      rw (ne_eqb x 255 other) refl

  module _ (bits : ℕ) (small : bits < 2 ^ 64) (names : Names (goes_to (entry image e) h.form) bits) where
    names_here : Names (goes image e) bits
    names_here = subst (λ (g : Header). Names (goes_to (entry image e) g.form) bits) same names

    few_bits : (x : ℕ) → T (bit bits x) → x < (header image).lexicons
    few_bits x t = subst (λ (g : Header). x < g.lexicons) same (bits_known (entry image e) h.form h.lexicons (ways_right image h a.laid right e inside) bits small names x t)

    few_64 : (x : ℕ) → x < (header image).lexicons → x < 64
    few_64 x t = omega (arith, t, a.laid.limits.lexicons_most, ap (λ (g : Header). g.lexicons) same)

    named_bits : (x : ℕ) → T (bit bits x) → (x < (header image).lexicons) × T (goes image e x)
    named_bits x t = let l = few_bits x t in (l, subst T (sym (names_here x (few_64 x l))) t)

    way_left : (i : ℕ) → (x : ℕ) × ((x < (header image).lexicons) × (T (goes image e x) × T (reach_of reach x i))) → (x : ℕ) × (T (bit bits x) × T (reach_of reach x i))
    way_left i u = (u.0, (subst T (names_here u.0 (few_64 u.0 u.1.0)) u.1.1.0, u.1.1.1))

    -- to begin with: the end, where a path may stop
    pub taken_end : (stop : Bool) → stop ≡ may_stop (entry image e) h.form → stop ≡ true → Taken image reach e bits (get_or reach 64 0)
    taken_end stop s marked =
        let here : T (stops image e) = of_true (stops image e) (ap (λ (g : Header). may_stop (entry image e) g.form) (sym same) ∙ sym s ∙ marked) in
        record {
          named = named_bits;
          only = λ i t. after_end image (reach_of reach) e i here t;
          all = λ i t. ⊎_elim (λ u. inl u.1) (λ u. inr (way_left i u)) (after_from image (reach_of reach) e i t);
        }

    pub taken_none : (stop : Bool) → stop ≡ may_stop (entry image e) h.form → stop ≡ false → Taken image reach e bits 0
    taken_none stop s unmarked =
        let here : stops image e ≡ false = ap (λ (g : Header). may_stop (entry image e) g.form) (sym same) ∙ sym s ∙ unmarked in
        record {
          named = named_bits;
          only = λ i t. absurd (subst T (bit_none i) t);
          all = λ i t. ⊎_elim (λ u. absurd (subst T here u.0)) (λ u. inr (way_left i u)) (after_from image (reach_of reach) e i t);
        }

  -- several: one lexicon more
  pub taken_more : (rest m x : ℕ) → Taken image reach e rest m → T (bit rest x) → Taken image reach e (rest - 2 ^ x) (bit_or m (get_or reach x 0))
  taken_more rest m x t there = record {
    named = λ y s. t.named y (left y s).0;
    only = λ i s. ⊎_elim (t.only i) (λ u. let n = t.named x there in after_way image (reach_of reach) e i x n.0 n.1 (subst (λ (k : ℕ). T (bit k i)) (sym (place x n.0)) u))
        (or_out (bit m i) (bit (get_or reach x 0) i) (subst T (bit_or_lem m (get_or reach x 0) i) s));
    all = λ i s. ⊎_elim (λ u. inl (subst T (sym (bit_or_lem m (get_or reach x 0) i)) (or_left (bit m i) (bit (get_or reach x 0) i) u))) (λ u. go i u.0 u.1.0 u.1.1 (ℕ_discrete x u.0))
        (t.all i s);
  }
    where
      left : (y : ℕ) → T (bit (rest - 2 ^ x) y) → T (bit rest y) × T (not (eqb x y))
      left y s = and_out (bit rest y) (not (eqb x y)) (subst T (digit_taken rest x there y) s)

      go : (i y : ℕ) → T (bit rest y) → T (reach_of reach y i) → Dec (x ≡ y) → T (bit (bit_or m (get_or reach x 0)) i) ⊎ ((y : ℕ) × (T (bit (rest - 2 ^ x) y) × T (reach_of reach y i)))
      go i y s u (yes z) =
          let here = subst (λ (k : ℕ). T (bit k i)) (ap (reach_set reach) (sym z) ∙ place x (t.named x there).0) u in
          inl (subst T (sym (bit_or_lem m (get_or reach x 0) i)) (or_right (bit m i) (bit (get_or reach x 0) i) here))
      go i y s u (no z) = inr (y, (subst T (sym (digit_taken rest x there y)) (and_in (bit rest y) (not (eqb x y)) s (subst (λ (b : Bool). T (not b)) (sym (ne_eqb x y z)) tt)), u))

  pub taken_all : (rest m : ℕ) → Taken image reach e rest m → rest ≡ 0 → Means m Afterward
  taken_all rest m t z = record { only = t.only; all = λ i s. ⊎_elim (λ u. u) (λ u. absurd (subst T (bit_none u.0) (subst (λ (k : ℕ). T (bit k u.0)) z u.1.0))) (t.all i s) }
