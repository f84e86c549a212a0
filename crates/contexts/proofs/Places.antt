-- The places computed for a context are those where a run that it matches may end.
use Prim.Native.Nat.{ℕ, zero, suc, ◌+◌, ◌≤◌, ◌<◌}
use mathlib.Core.Bool.{Bool, true, ◌&&◌, ◌||◌}
use mathlib.Core.Path.{◌≡◌, refl, sym, ap, ◌∙◌, subst}
use mathlib.Core.Logic.{◌↔◌, ◌⊎◌, inl, inr}
use mathlib.Core.List.{List, [], ◌∷◌, ◌++◌}
use lib.ListN.{length, get_or, length-append}
use lib.Seq.{slice, slice_empty, length-slice}
use lib.Dec.{T, ltb, eqb, eqb→eq, ltb→lt, lt→ltb}
use native.Mathlib.Omega.{arith}
use Rattle.contexts.specs.Context.{Context, pair, any, star, sequence, either, bracket}
use Rattle.contexts.specs.Meaning.{Times, pair_number, Runs, Places, rounds, onward, ends}
use Rattle.model.proofs.Booleans.{and_out, and_in, left_or, right_or, eq→eqb}
use Rattle.contexts.proofs.Booleans.{or_out}
use Rattle.contexts.proofs.Parts.{slice_split, slice_one, slice_cut}

-- runs without the empty ones: at most as many as there are pairs
shorten : (P : List ℕ → Type 0) (n : ℕ) (l : List ℕ) → Times P n l → (m : ℕ) × (m ≤ length l) × Times P m l
shorten P zero l t = (0, omega arith, t)
shorten P (suc n) l (t) = go t.0 t.2 t.3 (shorten P n t.1 t.4)
  where
    go : (u : List ℕ) → l ≡ u ++ t.1 → P u → (m : ℕ) × (m ≤ length t.1) × Times P m t.1 → (m : ℕ) × (m ≤ length l) × Times P m l
    go [] e p r = (r.0, omega (arith, ap length e, r.1), subst (Times P r.0) (sym e) r.2)
    go (x ∷ xs) e p r = (suc r.0, omega (arith, ap length e, r.1, length-append (x ∷ xs) t.1), (x ∷ xs, t.1, e, p, r.2))

module _ (s : List ℕ) where
  -- some place of p begins a run of P that ends at k
  abbrev pub Reach : (List ℕ → Type 0) → Places → ℕ → Type 0
  Reach P p k = (j : ℕ) × T (p j) × (j ≤ k) × (k ≤ length s) × P (slice j k s)

  abbrev pub Within : Places → Type 0
  Within p = (j : ℕ) → T (p j) → j ≤ length s

  module _ (test : ℕ → Bool) where
    onward_out : (p : Places) (k : ℕ) → T (onward test s p k) → Reach (λ l. (x : ℕ) × (l ≡ x ∷ []) × T (test x)) p k
    onward_out p zero t = absurd t
    onward_out p (suc k) t =
        let u = and_out (p k) (ltb k (length s) && test (get_or s k 0)) t in
        let v = and_out (ltb k (length s)) (test (get_or s k 0)) u.1 in
        let h = ltb→lt k (length s) v.0 in
        (k, u.0, omega arith, h, (get_or s k 0, slice_one s k 0 h, v.1))

    onward_in : (p : Places) (j k x : ℕ) → T (p j) → j ≤ k → k ≤ length s → slice j k s ≡ x ∷ [] → T (test x) → T (onward test s p k)
    onward_in p j k x t h i e q = go k refl
      where
        long : k ≡ suc j
        long = omega (arith, ap length e, length-slice j k s i)

        go : (m : ℕ) → k ≡ m → T (onward test s p m)
        go zero f = absurd (omega (arith, long))
        go (suc m) f =
            let g : j ≡ m = omega (arith, long) in
            let b : m < length s = omega (arith, long) in
            let a : slice m (suc m) s ≡ x ∷ [] = ap (λ (n : ℕ). slice n (suc n) s) (sym g) ∙ ap (λ (n : ℕ). slice j n s) (sym long) ∙ e in
            let o : get_or s m 0 ∷ [] ≡ x ∷ [] = sym (slice_one s m 0 b) ∙ a in
            let w : get_or s m 0 ≡ x = cc in
            and_in (p m) (ltb m (length s) && test (get_or s m 0)) (subst (λ (n : ℕ). T (p n)) g t)
            (and_in (ltb m (length s)) (test (get_or s m 0)) (lt→ltb m (length s) b) (subst (λ (y : ℕ). T (test y)) (sym w) q))

  -- f takes a set of places to the ends of the runs of P from them
  abbrev pub Out : (Places → Places) → (List ℕ → Type 0) → Type 0
  Out f P = (p : Places) → Within p → (k : ℕ) → T (f p k) → Reach P p k

  abbrev pub In : (Places → Places) → (List ℕ → Type 0) → Type 0
  In f P = (p : Places) (j k : ℕ) → T (p j) → j ≤ k → k ≤ length s → P (slice j k s) → T (f p k)

  module _ (f : Places → Places) (P : List ℕ → Type 0) where
    more_within : Out f P → (p : Places) → Within p → Within (λ k. p k || f p k)
    more_within out p w j t = both (or_out (p j) (f p j) t)
      where
        both : T (p j) ⊎ T (f p j) → j ≤ length s
        both (inl a) = w j a
        both (inr a) = (out p w j a).3

    rounds_out : Out f P → (m : ℕ) → Out (rounds f m) (λ l. (n : ℕ) × Times P n l)
    rounds_out out zero p w k t = (k, t, omega arith, w k t, (0, slice_empty k s))
    rounds_out out (suc m) p w k t = go (rounds_out out m (λ k. p k || f p k) (more_within out p w) k t)
      where
        by : (r : Reach (λ l. (n : ℕ) × Times P n l) (λ k. p k || f p k) k) → T (p r.0) ⊎ T (f p r.0) → Reach (λ l. (n : ℕ) × Times P n l) p k
        by r (inl a) = (r.0, a, r.2, r.3, r.4)
        by r (inr a) =
            let q = out p w r.0 a in
            let j = r.0 in
            (q.0, q.1, omega (arith, q.2, r.2), r.3, (suc r.4.0, (slice q.0 j s, slice j k s, slice_split s q.0 j k q.2 r.2 r.3, q.4, r.4.1)))

        go : Reach (λ l. (n : ℕ) × Times P n l) (λ k. p k || f p k) k → Reach (λ l. (n : ℕ) × Times P n l) p k
        go r = by r (or_out (p r.0) (f p r.0) r.1)

    -- places stay
    stays : (m : ℕ) (p : Places) (k : ℕ) → T (p k) → T (rounds f m p k)
    stays zero p k t = t
    stays (suc m) p k t = stays m (λ k. p k || f p k) k (left_or (p k) (f p k) t)

    more_rounds : (n m : ℕ) (p : Places) (k : ℕ) → n ≤ m → T (rounds f n p k) → T (rounds f m p k)
    more_rounds zero m p k h t = stays m p k t
    more_rounds (suc n) zero p k h t = absurd (omega arith)
    more_rounds (suc n) (suc m) p k h t = more_rounds n m (λ k. p k || f p k) k (omega arith) t

    times_in : In f P → (n : ℕ) → In (rounds f n) (Times P n)
    times_in into zero p j k t h i e = subst (λ (m : ℕ). T (p m)) (omega (arith, ap length e, length-slice j k s i)) t
    times_in into (suc n) p j k t h i r =
        let u = r.0 in
        let m = j + length u in
        let c = slice_cut s j k u r.1 h i r.2 in
        let a = into p j m t (omega arith) (omega (arith, c.0)) (subst P (sym c.1) r.3) in
        times_in into n (λ k. p k || f p k) m k (right_or (p m) (f p m) a) c.0 i (subst (Times P n) (sym c.2) r.4)

    -- as many rounds as there are pairs are enough
    rounds_in : In f P → (m : ℕ) → length s ≤ m → In (rounds f m) (λ l. (n : ℕ) × Times P n l)
    rounds_in into m b p j k t h i r =
        let q = shorten P r.0 (slice j k s) r.1 in
        more_rounds q.0 m p k (omega (arith, q.1, length-slice j k s i)) (times_in into q.0 p j k t h i q.2)

  ends_out : (c : Context) → Out (ends s c) (Runs c)
  ends_out (pair a b d) p w k t =
      let r = onward_out (λ x. eqb x (pair_number a b d)) p k t in
      (r.0, r.1, r.2, r.3, r.4.1 ∙ ap (λ (x : ℕ). x ∷ []) (eqb→eq r.4.0 (pair_number a b d) r.4.2))
  ends_out any p w k t =
      let r = onward_out (λ x. true) p k t in
      (r.0, r.1, r.2, r.3, ap length r.4.1)
  ends_out (star c) p w k t = rounds_out (ends s c) (Runs c) (ends_out c) (length s) p w k t
  ends_out (sequence c d) p w k t =
      let r = ends_out d (ends s c p) (λ j i. (ends_out c p w j i).3) k t in
      let q = ends_out c p w r.0 r.1 in
      let m = r.0 in
      (q.0, q.1, omega (arith, q.2, r.2), r.3, (slice q.0 m s, slice m k s, slice_split s q.0 m k q.2 r.2 r.3, q.4, r.4))
  ends_out (either c d) p w k t = go (or_out (ends s c p k) (ends s d p k) t) (ends_out c p w k) (ends_out d p w k)
    where
      go : T (ends s c p k) ⊎ T (ends s d p k) → (T (ends s c p k) → Reach (Runs c) p k) → (T (ends s d p k) → Reach (Runs d) p k) → Reach (Runs (either c d)) p k
      go (inl a) f g = let r = f a in (r.0, r.1, r.2, r.3, inl r.4)
      go (inr a) f g = let r = g a in (r.0, r.1, r.2, r.3, inr r.4)
  ends_out (bracket c) p w k t = ends_out c p w k t

  single : (l : List ℕ) → length l ≡ 1 → (x : ℕ) × (l ≡ x ∷ [])
  single [] e = absurd (omega arith)
  single (x ∷ []) e = (x, refl)
  single (x ∷ y ∷ l) e = absurd (omega arith)

  ends_in : (c : Context) → In (ends s c) (Runs c)
  ends_in (pair a b d) p j k t h i r = onward_in (λ x. eqb x (pair_number a b d)) p j k (pair_number a b d) t h i r (eq→eqb (pair_number a b d) (pair_number a b d) refl)
  ends_in any p j k t h i r = let u = single (slice j k s) r in onward_in (λ x. true) p j k u.0 t h i u.1 tt
  ends_in (star c) p j k t h i r = rounds_in (ends s c) (Runs c) (ends_in c) (length s) (omega arith) p j k t h i r
  ends_in (sequence c d) p j k t h i r =
      let u = r.0 in
      let m = j + length u in
      let q = slice_cut s j k u r.1 h i r.2 in
      let a = ends_in c p j m t (omega arith) (omega (arith, q.0)) (subst (Runs c) (sym q.1) r.3) in
      ends_in d (ends s c p) m k a q.0 i (subst (Runs d) (sym q.2) r.4)
  ends_in (either c d) p j k t h i (inl r) = left_or (ends s c p k) (ends s d p k) (ends_in c p j k t h i r)
  ends_in (either c d) p j k t h i (inr r) = right_or (ends s c p k) (ends s d p k) (ends_in d p j k t h i r)
  ends_in (bracket c) p j k t h i r = ends_in c p j k t h i r

  -- from any set of places
  pub places_iff : (c : Context) (p : Places) → Within p → (k : ℕ) → T (ends s c p k) ↔ Reach (Runs c) p k
  places_iff c p w k = (ends_out c p w k, λ r. ends_in c p r.0 k r.1 r.2 r.3 r.4)

  -- from one
  pub ends_iff : (c : Context) (j k : ℕ) → j ≤ length s → T (ends s c (λ i. eqb i j) k) ↔ ((j ≤ k) × (k ≤ length s) × Runs c (slice j k s))
  ends_iff c j k h = (out, λ r. ends_in c (λ i. eqb i j) j k (eq→eqb j j refl) r.0 r.1 r.2)
    where
      out : T (ends s c (λ i. eqb i j) k) → (j ≤ k) × (k ≤ length s) × Runs c (slice j k s)
      out t =
          let r = ends_out c (λ i. eqb i j) (λ i e. omega (arith, eqb→eq i j e)) k t in
          let e = eqb→eq r.0 j r.1 in
          (omega (arith, r.2), r.3, subst (λ (i : ℕ). Runs c (slice i k s)) e r.4)
