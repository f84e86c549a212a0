-- A context's relation of places: of a sequence by way of the places between; of a star, whose runs only go forward, from the last row to the first.
use Prim.Native.Nat.{ℕ, zero, suc, ◌+◌, ◌≤◌, ◌<◌}
use native.Mathlib.Omega.{arith}
use native.Mathlib.Decide.{dec_lt}
use mathlib.Core.Bool.{◌&&◌, ◌||◌}
use mathlib.Core.Path.{◌≡◌, sym, ap, ◌∙◌, subst, fun_ext}
use mathlib.Core.Logic.{◌⊎◌, inl, inr}
use mathlib.Core.List.{List, [], ◌∷◌, ◌++◌}
use lib.ListN.{length}
use lib.Seq.{slice, slice_empty, length-slice}
use lib.Dec.{T, eqb, eqb→eq}
use Rattle.contexts.specs.Context.{Context, star}
use Rattle.contexts.specs.Meaning.{Times, Runs, Places, ends}
use Rattle.contexts.specs.Relation.{one, through}
use Rattle.model.proofs.Booleans.{and_out, and_in, left_or, right_or, eq→eqb}
use Rattle.contexts.proofs.Booleans.{or_out}
use Rattle.contexts.proofs.Parts.{slice_split, slice_cut}
use Rattle.contexts.proofs.Places.{Within, places_iff, ends_iff}
use Rattle.contexts.proofs.Stars.{same_test}
use Rattle.contexts.proofs.Obeying.{some_out, some_in}

abbrev First : (List ℕ → Type 0) → List ℕ → Type 0
First P l = (u : List ℕ) × (v : List ℕ) × (1 ≤ length u) × (l ≡ u ++ v) × P u × ((m : ℕ) × Times P m v)

-- runs joined are nothing, or a first run that isn't empty and the rest
first_run : (P : List ℕ → Type 0) (n : ℕ) (l : List ℕ) → Times P n l → (l ≡ []) ⊎ First P l
first_run P zero l t = inl t
first_run P (suc n) l t = go t.0 t.2 t.3 (first_run P n t.1 t.4)
  where
    go : (u : List ℕ) → l ≡ u ++ t.1 → P u → (t.1 ≡ []) ⊎ First P t.1 → (l ≡ []) ⊎ First P l
    go [] e p (inl f) = inl (e ∙ f)
    go [] e p (inr f) = inr (f.0, f.1, f.2, e ∙ f.3, f.4, f.5)
    go (x ∷ xs) e p r = inr (x ∷ xs, t.1, omega arith, e, p, (n, t.4))

module _ (s : List ℕ) where
  -- by way of the places between
  pub additive : (c : Context) (p : Places) → Within s p → ends s c p ≡ through (suc (length s)) p (λ m. ends s c (one m))
  additive c p w = fun_ext λ k. same_test (ends s c p k) (through (suc (length s)) p (λ m. ends s c (one m)) k) (there k) (back k)
    where
      there : (k : ℕ) → T (ends s c p k) → T (through (suc (length s)) p (λ m. ends s c (one m)) k)
      there k t =
          let r = (places_iff s c p w k).0 t in
          let j = r.0 in
          some_in (λ m. p m && ends s c (one m) k) (suc (length s)) j (omega (arith, r.2, r.3))
          (and_in (p j) (ends s c (one j) k) r.1 ((ends_iff s c j k (omega (arith, r.2, r.3))).1 (r.2, r.3, r.4)))

      back : (k : ℕ) → T (through (suc (length s)) p (λ m. ends s c (one m)) k) → T (ends s c p k)
      back k t =
          let r = some_out (λ m. p m && ends s c (one m) k) (suc (length s)) t in
          let m = r.0 in
          let u = and_out (p m) (ends s c (one m) k) r.2 in
          let q = (ends_iff s c m k (omega (arith, r.1))).0 u.1 in
          (places_iff s c p w k).1 (m, u.0, q.0, q.1, q.2)

  module _ (c : Context) (j : ℕ) (rows : ℕ → Places) (inside : j ≤ length s)
      (above : (m : ℕ) → j < m → m ≤ length s → rows m ≡ ends s (star c) (one m))
      (empty : (m k : ℕ) → m ≤ j → T (rows m k) → ⊥) where
    star_there : (k : ℕ) → T (through (suc (length s)) (ends s c (one j)) rows k || eqb k j) → T (ends s (star c) (one j) k)
    star_there k t = go (or_out (through (suc (length s)) (ends s c (one j)) rows k) (eqb k j) t)
      where
        by : (m : ℕ) → m ≤ length s → T (ends s c (one j) m) → T (rows m k) → Dec (j < m) → T (ends s (star c) (one j) k)
        by m b a q (yes h) =
            let f = (ends_iff s c j m inside).0 a in
            let g = (ends_iff s (star c) m k b).0 (subst (λ (p : Places). T (p k)) (above m h b) q) in
            (ends_iff s (star c) j k inside).1 (omega (arith, f.0, g.0), g.1, (suc g.2.0, (slice j m s, slice m k s, slice_split s j m k f.0 g.0 g.1, f.2, g.2.1)))
        by m b a q (no h) = absurd (empty m k (omega arith) q)

        go : T (through (suc (length s)) (ends s c (one j)) rows k) ⊎ T (eqb k j) → T (ends s (star c) (one j) k)
        go (inl i) =
            let r = some_out (λ m. ends s c (one j) m && rows m k) (suc (length s)) i in
            let u = and_out (ends s c (one j) r.0) (rows r.0 k) r.2 in
            by r.0 (omega (arith, r.1)) u.0 u.1 (dec_lt j r.0)
        go (inr i) =
            subst (λ (n : ℕ). T (ends s (star c) (one j) n)) (sym (eqb→eq k j i)) ((ends_iff s (star c) j j inside).1 (omega arith, inside, (0, slice_empty j s)))

    star_back : (k : ℕ) → T (ends s (star c) (one j) k) → T (through (suc (length s)) (ends s c (one j)) rows k || eqb k j)
    star_back k t = go (first_run (Runs c) r.2.0 (slice j k s) r.2.1)
      where
        r : (j ≤ k) × (k ≤ length s) × Runs (star c) (slice j k s)
        r = (ends_iff s (star c) j k inside).0 t

        go : (slice j k s ≡ []) ⊎ First (Runs c) (slice j k s) → T (through (suc (length s)) (ends s c (one j)) rows k || eqb k j)
        go (inl e) = right_or (through (suc (length s)) (ends s c (one j)) rows k) (eqb k j) (eq→eqb k j (omega (arith, ap length e, length-slice j k s r.1, r.0)))
        go (inr f) =
            let u = f.0 in
            let m = j + length u in
            let q = slice_cut s j k u f.1 r.0 r.1 f.3 in
            let b : m ≤ length s = omega (arith, q.0, r.1) in
            let a = (ends_iff s c j m inside).1 (omega arith, b, subst (Runs c) (sym q.1) f.4) in
            let d = (ends_iff s (star c) m k b).1 (q.0, r.1, (f.5.0, subst (Times (Runs c) f.5.0) (sym q.2) f.5.1)) in
            left_or (through (suc (length s)) (ends s c (one j)) rows k) (eqb k j)
            (some_in (λ m. ends s c (one j) m && rows m k) (suc (length s)) m (omega (arith, b))
            (and_in (ends s c (one j) m) (rows m k) a (subst (λ (p : Places). T (p k)) (sym (above m (omega (arith, f.2)) b)) d)))

    -- a row of a star from the rows after it
    pub star_row : (λ (k : ℕ). through (suc (length s)) (ends s c (one j)) rows k || eqb k j) ≡ ends s (star c) (one j)
    star_row = fun_ext λ k. same_test (through (suc (length s)) (ends s c (one j)) rows k || eqb k j) (ends s (star c) (one j) k) (star_there k) (star_back k)
