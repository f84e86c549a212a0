-- One row put into a buffer: passed over, written, or counted alone; how many are counted of a list, and the reply. What a list leaves in the buffer is
-- proofs/Windows.antt's.
use Prim.Native.Nat.{ℕ, suc, ◌+◌, ◌-◌, ◌≤◌, ◌<◌, min}
use native.Mathlib.Decide.{dec_lt, ℕ_discrete}
use native.Mathlib.Omega.{arith}
use mathlib.Core.Bool.{Bool, true, false, cond}
use mathlib.Core.Path.{◌≡◌, refl, ap, ◌∙◌}
use mathlib.Core.List.{List, [], ◌∷◌}
use lib.ListN.{length}
use lib.Dec.{leb, eqb}
use borrow.Author.Tests.{lt-ltb, le-ltb, le-leb, lt-leb, ne_eqb, leb-true, leb-false}
use Rattle.model.specs.Readings.{Reading}
use Rattle.model.specs.Rows.{Reply, reply_to}
use Rattle.model.specs.Refusals.{Verdict}
use Rattle.model.specs.Calls.{reply_after}
use Rattle.model.specs.Demand.{reply_rows}
use Rattle.rows.specs.Offering.{offer_all, Keeps}
use Rattle.rows.specs.Fill.{written, passed_over, put, Over, reply_for}

module _ (capacity : ℕ) where
  -- one row: it is passed over, there is room, it is the first without room, or one before it had none
  module _ (d : List ℕ) (n : ℕ) (r : Reading) where
    pub put_pass : n < passed_over capacity d → put capacity (d, n) r ≡ (d, n + 1)
    unfolding put
    put_pass h = simp (lt-ltb n (passed_over capacity d) h)

    pub put_room : passed_over capacity d ≤ n → n < capacity → put capacity (d, n) r ≡ (written d (n - passed_over capacity d) r, n + 1)
    unfolding put
    put_room h k = simp (le-ltb n (passed_over capacity d) h, lt-ltb n capacity k)

    pub put_full : n ≡ capacity → put capacity (d, n) r ≡ (d, capacity + 1)
    unfolding put
    put_full e =
        let p : passed_over capacity d ≤ n = omega arith in
        let h : capacity ≤ n = omega arith in
        let k : n ≤ capacity = omega arith in
        simp (le-ltb n (passed_over capacity d) p, le-ltb n capacity h, le-leb n capacity k)

    pub put_over : capacity < n → put capacity (d, n) r ≡ (d, n)
    unfolding put
    put_over h =
        let p : passed_over capacity d ≤ n = omega arith in
        let k : capacity ≤ n = omega arith in
        simp (le-ltb n (passed_over capacity d) p, le-ltb n capacity k, lt-leb n capacity h)

    -- so what holds in each of the four holds of it
    put_cases : (P : List ℕ × ℕ → Type 0) → (n < passed_over capacity d → P (d, n + 1))
        → (passed_over capacity d ≤ n → n < capacity → P (written d (n - passed_over capacity d) r, n + 1)) → (n ≡ capacity → P (d, capacity + 1)) → (capacity < n → P (d, n))
        → P (put capacity (d, n) r)
    put_cases P pass room full over = go (dec_lt n (passed_over capacity d)) (dec_lt n capacity) (ℕ_discrete n capacity)
      where
        go : Dec (n < passed_over capacity d) → Dec (n < capacity) → Dec (n ≡ capacity) → P (put capacity (d, n) r)
        go (yes p) h e = rw (put_pass p) (pass p)
        go (no p) (yes h) e = let q : passed_over capacity d ≤ n = omega arith in rw (put_room q h) (room q h)
        go (no p) (no h) (yes e) = rw (put_full e) (full e)
        go (no p) (no h) (no e) = let k : capacity < n = omega arith in rw (put_over k) (over k)

    pub put_count : n ≤ suc capacity → (put capacity (d, n) r).1 ≡ min (suc n) (suc capacity)
    put_count h = put_cases (λ s. s.1 ≡ min (suc n) (suc capacity)) (λ k. omega arith) (λ p k. omega arith) (λ k. omega arith) (λ k. omega arith)

  -- once a row had no room, nothing changes
  pub put_keeps : Keeps (Over capacity) (put capacity)
  put_keeps = record { alone = λ s r h. put_over s.0 s.1 r h }

  pub count_offered : (s : List ℕ × ℕ) (l : List Reading) → s.1 ≤ suc capacity → (offer_all (put capacity) s l).1 ≡ min (s.1 + length l) (suc capacity)
  unfolding offer_all
  count_offered s [] h = omega arith
  count_offered s (r ∷ l) h =
      let e = put_count s.0 s.1 r h in
      omega (arith, count_offered (put capacity s r) l (omega arith))

-- the reply of a buffer of so many rows
module _ (rows : ℕ) where
  -- the reply has at most as many rows as there are
  pub reply_rows_lem : (n : ℕ) → reply_rows (reply_for n rows) ≤ rows
  unfolding reply_for
  reply_rows_lem n = go (eqb n 0) (leb n rows) refl
    where
      go : (a b : Bool) → leb n rows ≡ b → reply_rows (cond a Reply.none (cond b (Reply.all n) (Reply.more rows))) ≤ rows
      go true b e = omega arith
      go false true e = leb-true n rows e
      go false false e = omega arith

  pub reply_none : reply_for 0 rows ≡ Reply.none
  unfolding reply_for
  reply_none = refl

  pub reply_all : (n : ℕ) → 0 < n → n ≤ rows → reply_for n rows ≡ Reply.all n
  unfolding reply_for
  reply_all n h k = simp (ne_eqb n 0 (omega arith), le-leb n rows k)

  pub reply_more : (n : ℕ) → rows < n → reply_for n rows ≡ Reply.more rows
  unfolding reply_for
  reply_more n h = simp (ne_eqb n 0 (omega arith), lt-leb n rows h)

  -- the reply for the count of a list is the reply to that list
  pub reply_fills : (l : List Reading) → reply_for (min (length l) (suc rows)) rows ≡ reply_to rows l
  unfolding reply_for reply_to
  reply_fills [] = let e : min 0 (suc rows) ≡ 0 = omega arith in rw e reply_none
  reply_fills (r ∷ l) = go (leb (length (r ∷ l)) rows) refl
    where
      go : (b : Bool) → leb (length (r ∷ l)) rows ≡ b → reply_for (min (length (r ∷ l)) (suc rows)) rows ≡ cond b (Reply.all (length (r ∷ l))) (Reply.more rows)
      go true e =
          let h = leb-true (length (r ∷ l)) rows e in
          let m : min (length (r ∷ l)) (suc rows) ≡ length (r ∷ l) = omega arith in
          ap (λ (n : ℕ). reply_for n rows) m ∙ reply_all (length (r ∷ l)) (omega arith) h
      go false e =
          let h = leb-false (length (r ∷ l)) rows e in
          reply_more (min (length (r ∷ l)) (suc rows)) (omega arith)

  -- so a reply has few rows
  pub reply_to_rows : (l : List Reading) → reply_rows (reply_to rows l) ≤ rows
  reply_to_rows l = rw reply_fills at (reply_rows_lem (min (length l) (suc rows)))

  pub reply_after_rows : (v : Verdict) (l : List Reading) → reply_rows (reply_after v rows l) ≤ rows
  reply_after_rows Verdict.accepted l = reply_to_rows l
  reply_after_rows (Verdict.refused k) l = omega arith
